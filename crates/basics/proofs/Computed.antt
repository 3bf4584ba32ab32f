-- A test of every number below n, which antt computes once, gives what it tests of each number. Assumes nothing.
use mathlib.Core.Bool.{Bool, true, ◌&&◌}
use mathlib.Core.Logic.{◌⊎◌, inl, inr}
use mathlib.Core.Path.{◌≡◌}
use Prim.Native.Nat.{ℕ, zero, suc, ◌<◌}
use native.Mathlib.Nat.{eq-or-lt_of_le, le_of_suc-le-suc}
use native.Mathlib.Omega.{arith}
use lib.Dec.{eqb}
use borrow.Author.Tests.{eqb-true}
use Rattle.basics.proofs.Tests.{and_left, and_right}

-- the test p passes at each number below n
unfoldable pub every : ℕ → (ℕ → Bool) → Bool
every zero p = true
every (suc n) p = p n && every n p

pub below : (n : ℕ) (p : ℕ → Bool) → every n p ≡ true → (i : ℕ) → i < n → p i ≡ true
unfolding every
below zero p e i l = absurd (omega arith)
below (suc n) p e i l =
    at (eq-or-lt_of_le (le_of_suc-le-suc l)) (below n p (and_right (p n) (every n p) e) i)
  where
    at : (i ≡ n) ⊎ (i < n) → (i < n → p i ≡ true) → p i ≡ true
    at (inl q) ih = rw q (and_left (p n) (every n p) e)
    at (inr l') ih = ih l'

-- two functions agree below n
pub same-below : (n : ℕ) (f g : ℕ → ℕ) → every n (λ i. eqb (f i) (g i)) ≡ true → (i : ℕ) → i < n → f i ≡ g i
same-below n f g e i l = eqb-true (f i) (g i) (below n (λ i. eqb (f i) (g i)) e i l)
