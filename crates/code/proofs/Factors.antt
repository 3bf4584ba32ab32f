-- The products `others`, and the polynomial function that takes given values, up to them, at given nodes. Assumes nothing.
use mathlib.Core.Logic.{◌≢◌, ◌⊎◌, inl, inr}
use mathlib.Core.Path.{◌≡◌, refl, sym, ◌∙◌}
use Prim.Native.Nat.{ℕ, zero, suc, ◌-◌, ◌≤◌, ◌<◌}
use native.Mathlib.Decide.{ℕ_discrete}
use native.Mathlib.Nat.{le_of_suc-le-suc, eq-or-lt_of_le}
use native.Mathlib.Omega.{arith}
use borrow.Author.Tests.{eq-eqb, ne_eqb}
use Rattle.gf256.proofs.Laws.{product-left, zero-product}
use Rattle.code.specs.Code.{sum}
use Rattle.code.specs.Decode.{others}
use Rattle.gf256.proofs.Ring.{◌⊕◌, ◌⊗◌, ring, Nonzero, nonzero-times}
use Rattle.gf256.proofs.Sum.{All, sum_one}
use Rattle.code.proofs.Degree.{Degree, degree-constant, degree-factor, degree-times, degree-sum, degree-ext}

module _ (s : ℕ → ℕ) where
  -- ---- one factor more, or not

  others_same : (k q t : ℕ) → q ≡ suc k → others s (suc k) q t ≡ others s k q t
  unfolding others
  others_same k q t e = rw (eq-eqb q (suc k) e)

  others-more : (k q t : ℕ) → q ≢ suc k → others s (suc k) q t ≡ (t ⊕ (s (suc k) - 1)) ⊗ others s k q t
  unfolding others
  others-more k q t h = rw (ne_eqb q (suc k) h)

  -- past k it does not matter which is left out: all are there
  others-past : (k p q t : ℕ) → k < p → k < q → others s k p t ≡ others s k q t
  unfolding others
  others-past zero p q t lp lq = refl
  others-past (suc k) p q t lp lq =
      rw (others-more k p t (omega arith), others-more k q t (omega arith), others-past k p q t (omega arith) (omega arith))

  -- the factor left out, put back
  pub others-all : (k p q t : ℕ) → 1 ≤ p → p ≤ k → k < q → (t ⊕ (s p - 1)) ⊗ others s k p t ≡ others s k q t
  others-all zero p q t p1 pk lq = absurd (omega arith)
  others-all (suc k) p q t p1 pk lq = by (eq-or-lt_of_le pk) (λ l. others-all k p q t p1 (le_of_suc-le-suc l) (omega arith))
    where
      by : (p ≡ suc k) ⊎ (p < suc k) → (p < suc k → (t ⊕ (s p - 1)) ⊗ others s k p t ≡ others s k q t)
          → (t ⊕ (s p - 1)) ⊗ others s (suc k) p t ≡ others s (suc k) q t
      by (inl e) ih =
          rw (others_same k p t e, others-more k q t (omega arith), others-past k p q t (omega arith) (omega arith), e)
      by (inr l) ih =
          rw (others-more k p t (omega arith), others-more k q t (omega arith), ← ih l)
          (product-left (t ⊕ (s p - 1)) (t ⊕ (s (suc k) - 1)) (others s k p t))

  -- at the point of another node it is 0
  pub others-zero : (k p q : ℕ) → 1 ≤ q → q ≤ k → q ≢ p → others s k p (s q - 1) ≡ 0
  others-zero zero p q q1 qk h = absurd (omega arith)
  others-zero (suc k) p q q1 qk h = by (ℕ_discrete p (suc k)) (eq-or-lt_of_le qk) (λ l. others-zero k p q q1 l h)
    where
      by : Dec (p ≡ suc k) → (q ≡ suc k) ⊎ (q < suc k) → (q ≤ k → others s k p (s q - 1) ≡ 0) → others s (suc k) p (s q - 1) ≡ 0
      by (yes e) l ih = others_same k p (s q - 1) e ∙ ih (omega arith)
      by (no n) (inl e) ih = rw (others-more k p (s q - 1) n, e) (simp ring)
      by (no n) (inr l) ih = rw (others-more k p (s q - 1) n, ih (le_of_suc-le-suc l)) (simp ring)

  -- and where t lies apart from the others it is not
  pub others-nonzero : (k q t : ℕ) → All k (λ l. l ≢ q → Nonzero (t ⊕ (s l - 1))) → Nonzero (others s k q t)
  unfolding others
  others-nonzero zero q t far = omega arith
  others-nonzero (suc k) q t far = by (ℕ_discrete q (suc k)) (others-nonzero k q t (λ l l1 lk. far l l1 (omega arith)))
    where
      by : Dec (q ≡ suc k) → Nonzero (others s k q t) → Nonzero (others s (suc k) q t)
      by (yes e) ih = rw (others_same k q t e) ih
      by (no n) ih =
          rw (others-more k q t n)
          (nonzero-times (t ⊕ (s (suc k) - 1)) (others s k q t) (far (suc k) (omega arith) (omega arith) (omega arith)) ih)

  -- ---- of degree below k: one factor for each of 1 to k but q

  others-degree-all : (k q : ℕ) → k < q → Degree (suc k) (others s k q)
  unfolding others
  others-degree-all zero q l = degree-constant zero 1
  others-degree-all (suc k) q l =
      degree-ext (suc (suc k)) (others s (suc k) q) (λ t. (t ⊕ (s (suc k) - 1)) ⊗ others s k q t) (λ t. others-more k q t (omega arith))
      (degree-factor (suc k) (s (suc k) - 1) (others s k q) (others-degree-all k q (omega arith)))

  others-degree : (k q : ℕ) → 1 ≤ q → q ≤ k → Degree k (others s k q)
  others-degree zero q q1 qk = absurd (omega arith)
  others-degree (suc k) q q1 qk = by (eq-or-lt_of_le qk) (λ l. others-degree k q q1 (le_of_suc-le-suc l))
    where
      by : (q ≡ suc k) ⊎ (q < suc k) → (q < suc k → Degree k (others s k q)) → Degree (suc k) (others s (suc k) q)
      by (inl e) ih =
          degree-ext (suc k) (others s (suc k) q) (others s k q) (λ t. others_same k q t e) (others-degree-all k q (omega arith))
      by (inr l) ih =
          degree-ext (suc k) (others s (suc k) q) (λ t. (t ⊕ (s (suc k) - 1)) ⊗ others s k q t) (λ t. others-more k q t (omega arith))
          (degree-factor k (s (suc k) - 1) (others s k q) (ih l))

-- ---- the polynomial function

-- of degree below k, and at the point of s q it is z q times the product of the others
unfoldable pub poly : (ℕ → ℕ) → ℕ → (ℕ → ℕ) → ℕ → ℕ
poly s k z t = sum k (λ q. others s k q t ⊗ z q)

pub poly-degree : (s : ℕ → ℕ) (k : ℕ) (z : ℕ → ℕ) → Degree k (poly s k z)
unfolding poly
poly-degree s k z =
    degree-sum k k (λ q t. others s k q t ⊗ z q) (λ q q1 qk. degree-times k (z q) (others s k q) (others-degree s k q q1 qk))

pub poly-at : (s : ℕ → ℕ) (k : ℕ) (z : ℕ → ℕ) (q : ℕ) → 1 ≤ q → q ≤ k → poly s k z (s q - 1) ≡ others s k q (s q - 1) ⊗ z q
unfolding poly
poly-at s k z q q1 qk =
    sum_one k (λ p. others s k p (s q - 1) ⊗ z p) q q1 qk
    (λ p p1 pk h. rw (others-zero s k p q q1 qk (λ e. h (sym e))) (zero-product (z p)))
