-- Sums over 1 to k in the field. Assumes nothing.
use mathlib.Core.Logic.{◌≢◌, ◌⊎◌, inl, inr}
use mathlib.Core.Path.{◌≡◌, refl}
use Prim.Native.Nat.{ℕ, zero, suc, ◌≤◌, ◌<◌}
use native.Mathlib.Nat.{le_of_suc-le-suc, eq-or-lt_of_le}
use native.Mathlib.Omega.{arith}
use Rattle.gf256.proofs.Xor.{xor_zero_r, xor-byte}
use Rattle.gf256.specs.Field.{sum}
use Rattle.gf256.proofs.Ring.{◌⊕◌, ◌⊗◌, ring}

-- p holds of 1 to k
abbrev pub All : ℕ → (ℕ → Type 0) → Type 0
All k p = (q : ℕ) → 1 ≤ q → q ≤ k → p q

pub sum-ext : (k : ℕ) (f g : ℕ → ℕ) → All k (λ i. f i ≡ g i) → sum k f ≡ sum k g
unfolding sum
sum-ext zero f g e = refl
sum-ext (suc k) f g e = rw (sum, e (suc k) (omega arith) (omega arith), sum-ext k f g (λ i l1 lk. e i l1 (omega arith)))

pub sum-zero : (k : ℕ) (f : ℕ → ℕ) → All k (λ i. f i ≡ 0) → sum k f ≡ 0
unfolding sum
sum-zero zero f z = refl
sum-zero (suc k) f z = rw (sum, z (suc k) (omega arith) (omega arith), sum-zero k f (λ i l1 lk. z i l1 (omega arith)))

pub sum-add : (k : ℕ) (f g : ℕ → ℕ) → sum k (λ i. f i ⊕ g i) ≡ sum k f ⊕ sum k g
unfolding sum
sum-add zero f g = refl
sum-add (suc k) f g = rw (sum, sum-add k f g) (simp ring)

pub sum-times : (k c : ℕ) (f : ℕ → ℕ) → sum k (λ i. c ⊗ f i) ≡ c ⊗ sum k f
unfolding sum
sum-times zero c f = simp ring
sum-times (suc k) c f = rw (sum, sum-times k c f) (simp ring)

-- a sum all of whose terms but one are 0
pub sum_one : (k : ℕ) (f : ℕ → ℕ) (j : ℕ) → 1 ≤ j → j ≤ k → All k (λ i. i ≢ j → f i ≡ 0) → sum k f ≡ f j
unfolding sum
sum_one zero f j l1 lk z = absurd (omega arith)
sum_one (suc k) f j l1 lk z = by (eq-or-lt_of_le lk) (λ l. sum_one k f j l1 l (λ i i1 ik. z i i1 (omega arith)))
  where
    by : (j ≡ suc k) ⊎ (j < suc k) → (j ≤ k → sum k f ≡ f j) → sum k f ⊕ f (suc k) ≡ f j
    by (inl e) ih = rw (sum-zero k f (λ i i1 ik. z i i1 (omega arith) (omega arith)), e)
    by (inr l) ih = rw (ih (le_of_suc-le-suc l), z (suc k) (omega arith) (omega arith) (omega arith)) (xor_zero_r (f j))

pub sum-byte : (k : ℕ) (f : ℕ → ℕ) → All k (λ i. f i < 256) → sum k f < 256
unfolding sum
sum-byte zero f b = omega arith
sum-byte (suc k) f b =
    xor-byte (sum k f) (f (suc k)) (sum-byte k f (λ i l1 lk. b i l1 (omega arith))) (b (suc k) (omega arith) (omega arith))
