-- The sets of a pick, made place by place, and the recent ids that they go by. Assumes nothing.
use mathlib.Core.Path.{◌≡◌, refl, sym, ap, ◌∙◌}
use mathlib.Core.Bool.{Bool, true, false, cond, ◌&&◌, ◌||◌, not}
use Prim.Native.Nat.{ℕ, suc, ◌+◌, ◌-◌, ◌≤◌, ◌<◌}
use native.Mathlib.Decide.{ℕ_discrete, dec_lt}
use native.Mathlib.Numerals.{add-one}
use native.Mathlib.Omega.{arith}
use lib.Dec.{eqb, leb}
use lib.ListN.{length}
use borrow.Author.Tests.{eq-eqb, ne_eqb, le-leb, lt-leb}
use Rattle.code.specs.Decode.{NodeSet, has, set_of, no_nodes, including, excluding}
use Rattle.code.proofs.Members.{set-cong}
use Rattle.code.proofs.NodeSets.{has-set_of}
use Rattle.machine.specs.Stripe.{node_at}
use Rattle.machine.specs.Rebuild.{fits}
use Rattle.entries.proofs.Lists.{entries-count}
use Rattle.records.specs.declared.Sizes.{Sizes}
use Rattle.records.specs.Node.{is_norm}
use Rattle.stripe.specs.declared.nodes.Nodes.{Nodes}
use Rattle.stripe.specs.declared.sets.Recents.{Recents}
use Rattle.stripe.specs.Sets.{fits_beside, ids_at, Knows}
use Rattle.stripe.specs.View.{record_at, nodes_of}
use Rattle.entries.specs.View.{ids_of}
use Rattle.stripe.proofs.IdLists.{recent-keep, keep-count}
use Rattle.stripe.proofs.NodeLists.{node-item}

-- ---- a loop that puts each of the nodes 1 to n in the set, or not

-- of the nodes 1 to i, of n, those are in the set that `new` holds of, each by its place from 0
pub record Marked (new : ℕ → Bool) (s : NodeSet) (i n : ℕ) : Type 0 where
  pub to : i ≤ n
  pub is : s ≡ set_of (λ j. leb j i && new (j - 1))

pub mark-start : {new : ℕ → Bool} {s : NodeSet} {n : ℕ} → s ≡ no_nodes → Marked new s 0 n
mark-start {new} e = record {
  to = omega arith;
  is = e ∙ set-cong (λ j. false) (λ j. leb j 0 && new (j - 1)) (λ j j1 j18. rw (lt-leb j 0 j1));
}

module _ {new : ℕ → Bool} {s : NodeSet} {i n : ℕ} (q : Marked new s i n) where
  before : (j : ℕ) → 1 ≤ j → j ≤ 18 → has s j ≡ (leb j i && new (j - 1))
  before j j1 j18 = rw q.is (has-set_of (λ j. leb j i && new (j - 1)) j j1 j18)

  pub mark_on : {r : NodeSet} {b : Bool} → i < n → r ≡ cond b (including (i + 1) s) (excluding (i + 1) s) → b ≡ new i → Marked new r (i + 1) n
  mark_on {r} {b} h e t = record {
    to = omega arith;
    is = e ∙ either b ∙ set-cong (put b) (λ j. leb j (i + 1) && new (j - 1)) (λ j j1 j18. at j j1 j18 (ℕ_discrete j (i + 1)) (dec_lt j (i + 1)));
  }
    where
      put : Bool → ℕ → Bool
      put b j = cond b (eqb j (i + 1) || has s j) (not (eqb j (i + 1)) && has s j)

      either : (b : Bool) → cond b (including (i + 1) s) (excluding (i + 1) s) ≡ set_of (put b)
      either true = refl
      either false = refl

      own : (b : Bool) → cond b true false ≡ b
      own true = refl
      own false = refl

      other : (b x : Bool) → cond b x x ≡ x
      other true x = refl
      other false x = refl

      at : (j : ℕ) → 1 ≤ j → j ≤ 18 → Dec (j ≡ i + 1) → Dec (j < i + 1) → put b j ≡ (leb j (i + 1) && new (j - 1))
      at j j1 j18 (yes same) l =
          let place : j - 1 ≡ i = omega arith in
          rw (eq-eqb j (i + 1) same, le-leb j (i + 1) (omega arith), place) (own b ∙ t)
      at j j1 j18 (no n) (yes l) =
          rw (ne_eqb j (i + 1) n, le-leb j (i + 1) (omega arith)) (other b (has s j) ∙ before j j1 j18 ∙ rw (le-leb j i (omega arith)))
      at j j1 j18 (no n) (no l) =
          rw (ne_eqb j (i + 1) n, lt-leb j (i + 1) (omega arith)) (other b (has s j) ∙ before j j1 j18 ∙ rw (lt-leb j i (omega arith)))

  -- then it is the set of the nodes that p holds of, if p is `new`, and holds of none past n
  pub mark-end : (p : ℕ → Bool) → n ≤ i → ((i : ℕ) → i < n → new i ≡ p (suc i)) → ((j : ℕ) → n < j → p j ≡ false) → s ≡ set_of p
  mark-end p l same out = q.is ∙ set-cong (λ j. leb j i && new (j - 1)) p (λ j j1 j18. at j j1 (dec_lt n j))
    where
      at : (j : ℕ) → 1 ≤ j → Dec (n < j) → (leb j i && new (j - 1)) ≡ p j
      at j j1 (yes past) = rw (lt-leb j i (omega (arith, q.to)), out j past)
      at j j1 (no there) =
          let next : suc (j - 1) ≡ j = omega arith in
          rw (le-leb j i (omega arith)) (same (j - 1) (omega arith) ∙ ap p next)

-- ---- the recent ids that are known

module _ {n : ℕ} {x : Nodes} {known : Recents} (k : Knows n x known) where
  pub known-few : (i : ℕ) → i < n → (ids_at known i).count ≤ 16
  known-few i h =
      omega
      (arith, keep-count (recent-keep (nodes_of n x)) (ids_at known i) (k.ids i h), ap (λ y. length y.entries) (node-item n x i h), entries-count (record_at x i).entries, k.counted.few i h)

  -- the redundant member r, and node i + 1 beside it
  pub beside-is : (z : Sizes) (r i : ℕ) → 1 ≤ r → r ≤ n → i < n
      → (is_norm (record_at x i).opmode && fits_beside z.k (i + 1) (ids_of (ids_at known i)) (ids_of (ids_at known (r - 1))))
      ≡ (is_norm (node_at (nodes_of n x) (suc i)).opmode && fits z (nodes_of n x) r (suc i))
  beside-is z r i r1 rn h =
      let e : suc (r - 1) ≡ r = omega arith in
      rw (add-one i, k.ids i h, k.ids (r - 1) (omega arith), e)
      (ap (λ y. is_norm y.opmode && fits z (nodes_of n x) r (suc i)) (sym (node-item n x i h)))
