-- The loop over the redundant nodes that asks whether a write is done at all of them. Assumes nothing.
use mathlib.Core.Path.{◌≡◌, refl, sym}
use mathlib.Core.Bool.{Bool, true, false, ◌||◌, or-true}
use Prim.Native.Nat.{ℕ, zero, suc, ◌+◌, ◌≤◌, ◌<◌}
use native.Mathlib.Numerals.{add-one}
use native.Mathlib.Omega.{arith}
use lib.Dec.{leb}
use borrow.Author.Tests.{le-leb, lt-leb}
use Rattle.basics.proofs.Tests.{never_both}
use Rattle.code.specs.Decode.{NodeSet, has, each}
use Rattle.machine.proofs.Sets.{each_at}

abbrev test : ℕ → NodeSet → ℕ → Bool
test k s m = leb m k || has s m

-- the nodes 1 to j, of n, are data nodes or in the set
pub record Had (k : ℕ) (s : NodeSet) (j n : ℕ) : Type 0 where
  pub from : k ≤ j
  pub to : j ≤ n
  pub all : each j (test k s) ≡ true

data-nodes : (k : ℕ) (s : NodeSet) (j : ℕ) → j ≤ k → each j (test k s) ≡ true
unfolding each
data-nodes k s zero h = refl
data-nodes k s (suc j) h = rw (each, data-nodes k s j (omega arith), le-leb (suc j) k h)

pub had-start : {k : ℕ} {s : NodeSet} {n : ℕ} → k ≤ n → Had k s k n
had-start {k} {s} h = record { from = omega arith; to = h; all = data-nodes k s k (omega arith) }

module _ {k : ℕ} {s : NodeSet} {j n : ℕ} (q : Had k s j n) where
  pub had-on : j < n → has s (j + 1) ≡ true → Had k s (j + 1) n
  unfolding each
  had-on h t = record { from = omega arith; to = omega arith; all = rw (add-one j, each, q.all, ← add-one j, t) (or-true (leb (j + 1) k)) }

  pub had-hit : j < n → has s (j + 1) ≡ false → false ≡ each n (test k s)
  had-hit h t = by (each n (test k s)) refl
    where
      by : (v : Bool) → each n (test k s) ≡ v → false ≡ v
      by false e = refl
      by true e = absurd (never_both (test k s (j + 1)) (each_at n (test k s) e (j + 1) (omega arith) (omega arith)) (rw (lt-leb (j + 1) k (omega arith), t)))

  pub had-end : n ≤ j → true ≡ each n (test k s)
  had-end h = let e : j ≡ n = omega arith in sym (rw e at q.all)
