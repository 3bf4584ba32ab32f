-- A client's record: the lmodes that it remembers, its phases. Assumes nothing.
use mathlib.Core.Path.{◌≡◌, refl, sym, ap₂, ◌∙◌}
use mathlib.Core.Bool.{Bool, true, false, cond, ◌&&◌, ◌||◌, and-true, and_assoc}
use mathlib.Core.List.{List, [], ◌∷◌, ◌++◌}
use Prim.Native.Nat.{ℕ, zero, suc, ◌+◌, ◌≤◌, ◌<◌}
use native.Mathlib.Omega.{arith}
use lib.Dec.{eqb, leb, ltb}
use lib.ListN.{length}
use borrow.Author.Tests.{eq-eqb, ne_eqb}
use Rattle.basics.specs.Lists.{list_of}
use Rattle.basics.proofs.Lists.{length-list_of, list_of-cong}
use Rattle.code.specs.declared.nodes.NodeSet.{NodeSet}
use Rattle.code.specs.Decode.{has, including, excluding}
use Rattle.code.specs.View.{node_set_of}
use Rattle.code.proofs.NodeSets.{has-put}
use Rattle.entries.proofs.Lists.{list_of-more}
use Rattle.records.specs.declared.Sizes.{Sizes}
use Rattle.records.specs.declared.Phase.{Phase}
use Rattle.records.specs.declared.Phase.TheVariants as Phases
use Rattle.records.specs.declared.Lmode.{Lmode}
use Rattle.records.specs.declared.Lmode.TheVariants.{Unl, L0, L1, Exp}
use Rattle.records.specs.Sizes.{node_limit}
use Rattle.records.specs.Node.{is_unl, is_exp, is_l0, is_l1}
use Rattle.records.specs.Client.{Picking, Locking, unl_or_exp, rebuild_within, locked_rebuild, remembered}
use Rattle.records.specs.View.{old_lmode, old_lmodes, rebuild_of}

-- only locking remembers lmodes
pub none-remembered : (p : Phase) → ((x : ℕ) (e : NodeSet) → p ≡ Phases.Locking x e → ⊥) → remembered (rebuild_of p) ≡ []
none-remembered Phases.NoRebuild f = refl
none-remembered (Phases.Locking x e) f = absurd (f x e refl)
none-remembered (Phases.Picking j) f = refl
none-remembered (Phases.Writing j s e) f = refl
none-remembered (Phases.Settling j e) f = refl
none-remembered (Phases.Unlocking j) f = refl

-- ---- the old lmodes of x nodes, of which those in s were EXP

abbrev old : List Bool → ℕ → Lmode
old s i = old_lmode (has s (suc i))

pub lmodes-count : (x : ℕ) (expired : NodeSet) → length (old_lmodes x expired) ≡ x
lmodes-count x expired = length-list_of x (old (node_set_of expired))

-- one more, which was l
module _ (x : ℕ) (l : Lmode) (free : (is_l0 l || is_l1 l) ≡ false) (below : x < node_limit) (expired r : NodeSet)
    (put : node_set_of r ≡ cond (is_exp l) (including (x + 1) (node_set_of expired)) (excluding (x + 1) (node_set_of expired))) where
  is : (l : Lmode) → (is_l0 l || is_l1 l) ≡ false → old_lmode (is_exp l) ≡ l
  is Unl free = refl
  is L0 free = let z : ◌≡◌ {A = ℕ} 0 1 = cc in absurd (omega arith)
  is L1 free = let z : ◌≡◌ {A = ℕ} 0 1 = cc in absurd (omega arith)
  is Exp free = refl

  at : (i : ℕ) → i ≤ x → has (node_set_of r) (suc i) ≡ cond (eqb (suc i) (x + 1)) (is_exp l) (has (node_set_of expired) (suc i))
  at i h = rw put (has-put (is_exp l) (x + 1) (node_set_of expired) (suc i) (omega arith) (omega arith))

  pub lmodes-more : old_lmodes (x + 1) r ≡ old_lmodes x expired ++ (l ∷ [])
  lmodes-more =
      list_of-more x (old (node_set_of r))
      ∙ ap₂ (λ a b. a ++ (b ∷ []))
      (list_of-cong x (old (node_set_of r)) (old (node_set_of expired)) (λ i h. rw (at i (omega arith), ne_eqb (suc i) (x + 1) (λ e. omega arith))))
      (rw (at x (omega arith), eq-eqb (suc x) (x + 1) (omega arith)) (is l free))

-- the phase after the lock: the last, or not yet
pub locked-last : (n : ℕ) (l : Lmode) (x : ℕ) (expired : NodeSet) → leb n (x + 1) ≡ true → Picking 0 ≡ locked_rebuild n l (old_lmodes x expired)
locked-last n l x expired e = rw (lmodes-count x expired, e)

pub locked-more : (n : ℕ) (l : Lmode) (x : ℕ) (expired : NodeSet) {r : List Lmode} → leb n (x + 1) ≡ false → r ≡ old_lmodes x expired ++ (l ∷ [])
    → Locking r ≡ locked_rebuild n l (old_lmodes x expired)
locked-more n l x expired e q = rw (lmodes-count x expired, e, q)

lmodes-known : (x : ℕ) (s : List Bool) → unl_or_exp (list_of x (old s)) ≡ true
unfolding list_of unl_or_exp
lmodes-known zero s = refl
lmodes-known (suc x) s = append (list_of x (old s)) (old s x) ∙ rw (lmodes-known x s) (one (has s (suc x)))
  where
    append : (ls : List Lmode) (l : Lmode) → unl_or_exp (ls ++ (l ∷ [])) ≡ (unl_or_exp ls && unl_or_exp (l ∷ []))
    append [] l = refl
    append (k ∷ ls) l = rw (append ls l) (sym (and_assoc (is_unl k || is_exp k) (unl_or_exp ls) (unl_or_exp (l ∷ []))))

    one : (b : Bool) → unl_or_exp (old_lmode b ∷ []) ≡ true
    one true = refl
    one false = refl

pub locking-within : (z : Sizes) (x : ℕ) (expired : NodeSet) → (leb 1 x && ltb x z.n) ≡ rebuild_within z (Locking (old_lmodes x expired))
locking-within z x expired = sym (rw (lmodes-count x expired, lmodes-known x (node_set_of expired), and-true (ltb x z.n)))
