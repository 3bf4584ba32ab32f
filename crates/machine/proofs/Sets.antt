-- Sets of nodes to which one node comes, or from which one goes. Assumes nothing.
use mathlib.Core.Path.{◌≡◌, refl, sym, ◌∙◌}
use mathlib.Core.Logic.{◌≢◌, ◌⊎◌, inl, inr}
use mathlib.Core.Bool.{Bool, true, false, ◌&&◌, ◌||◌, not}
use Prim.Native.Nat.{ℕ, zero, suc, ◌≤◌, ◌<◌}
use native.Mathlib.Nat.{le_trans, eq-or-lt_of_le}
use native.Mathlib.Omega.{arith}
use lib.Dec.{eqb}
use borrow.Author.Tests.{eq-eqb, ne_eqb}
use Rattle.code.specs.Decode.{NodeSet, has, set_of, no_nodes, including, excluding, each}
use Rattle.code.proofs.NodeSets.{has-set_of, has-zero, has_within, length-set_of}
use Rattle.basics.proofs.Tests.{is_false, and_both}
use Rattle.machine.proofs.Columns.{Ops}
use Rattle.machine.proofs.Invariant.{Laws, IsNode}

-- what holds of each of 1 to n holds of m
pub each_at : (n : ℕ) (p : ℕ → Bool) → each n p ≡ true → (m : ℕ) → 1 ≤ m → m ≤ n → p m ≡ true
unfolding each
each_at zero p e m low high = absurd (omega arith)
each_at (suc n) p e m low high = let (before, last) = and_both (each n p) (p (suc n)) e in go (eq-or-lt_of_le high) (each_at n p before m low) last
  where
    go : (m ≡ suc n) ⊎ (m < suc n) → (m ≤ n → p m ≡ true) → p (suc n) ≡ true → p m ≡ true
    go (inl t) ih last = rw t last
    go (inr l) ih last = ih (omega arith)

pub no-nodes : (j : ℕ) → has no_nodes j ≡ false
no-nodes zero = has-zero no_nodes
no-nodes (suc j) =
    is_false (has no_nodes (suc j)) (λ e. has-set_of (λ l. false) (suc j) (omega arith) (rw (length-set_of (λ l. false)) at (has_within no_nodes (suc j) e)))

module _ {O : Ops} (L : Laws O) {j : ℕ} (r : IsNode O j) where
  pub has-node : (p : ℕ → Bool) → has (set_of p) j ≡ p j
  has-node p = has-set_of p j r.low (le_trans r.high L.n_18)

  module _ (s : NodeSet) where
    pub including-same : has (including j s) j ≡ true
    including-same = has-node (λ l. eqb l j || has s l) ∙ rw (eq-eqb j j refl)

    pub excluding-same : has (excluding j s) j ≡ false
    excluding-same = has-node (λ l. not (eqb l j) && has s l) ∙ rw (eq-eqb j j refl)

    -- another node i comes or goes
    pub including-other : (i : ℕ) → i ≢ j → has (including i s) j ≡ has s j
    including-other i d = has-node (λ l. eqb l i || has s l) ∙ rw (ne_eqb j i (λ e. d (sym e)))

    pub excluding-other : (i : ℕ) → i ≢ j → has (excluding i s) j ≡ has s j
    excluding-other i d = has-node (λ l. not (eqb l i) && has s l) ∙ rw (ne_eqb j i (λ e. d (sym e)))
