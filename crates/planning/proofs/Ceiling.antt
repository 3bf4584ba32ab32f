-- The serial limit is the least whole number not below its fraction, for all n−k and t_p. Assumes nothing.
use mathlib.Core.Bool.{Bool, true, false, cond}
use mathlib.Core.Path.{◌≡◌, refl}
use Prim.Native.Nat.{ℕ, zero, suc, ◌+◌, ◌-◌, ◌*◌, ◌/◌, ◌≤◌, ◌<◌}
use native.Mathlib.Nat.{mul_comm, mul-pos, mul-suc, mod-lt, div-add-mod, mul-div-le, le-div_iff_mul-le, div-lt_iff_lt-mul}
use native.Mathlib.Omega.{arith}
use lib.Dec.{T, ltb, leb→le, le→leb}
use lib.IntN.{ℤ, pos, negsuc, neg_ℤ, sub_ℕ, ◌+ℤ◌, ◌*ℤ◌}
use lib.Signed.{le_z}
use borrow.Author.Tests.{ltb-true, ltb-false}
use Rattle.planning.specs.Planning.{ceiling, serial_limit, LeastNotBelow}

-- ---- orders of whole numbers by those of naturals

-- a ≤ −x + b
sum-in : (a x b : ℕ) → a + x ≤ b → T (le_z (pos a) (neg_ℤ (pos x) +ℤ pos b))
sum-in a zero b l = le→leb a (zero + b) (omega arith)
sum-in a (suc x) b l = by (ltb b (suc x)) refl
  where
    by : (c : Bool) → ltb b (suc x) ≡ c → T (le_z (pos a) (cond c (negsuc (suc x - suc b)) (pos (b - suc x))))
    by true e = let m = ltb-true b (suc x) e in absurd (omega arith)
    by false e = le→leb a (b - suc x) (omega arith)

sum-out : (a x b : ℕ) → T (le_z (pos a) (neg_ℤ (pos x) +ℤ pos b)) → a + x ≤ b
sum-out a zero b t = omega (arith, leb→le a (zero + b) t)
sum-out a (suc x) b t = by (ltb b (suc x)) refl t
  where
    by : (c : Bool) → ltb b (suc x) ≡ c → T (le_z (pos a) (cond c (negsuc (suc x - suc b)) (pos (b - suc x)))) → a + suc x ≤ b
    by true e t = absurd t
    by false e t = omega (arith, leb→le a (b - suc x) t, ltb-false b (suc x) e)

-- a ≤ d · −q + b
product-in : (a b d q : ℕ) → a + d * q ≤ b → T (le_z (pos a) (pos d *ℤ neg_ℤ (pos q) +ℤ pos b))
product-in a b d zero l = le→leb a (d * zero + b) (omega arith)
product-in a b d (suc q) l = sum-in a (d * suc q) b l

negative-at-most : (q m : ℕ) → T (le_z (neg_ℤ (pos q)) (pos m))
negative-at-most zero m = le→leb zero m (omega arith)
negative-at-most (suc q) m = tt

negatives-at-most : (q p : ℕ) → suc p ≤ q → T (le_z (neg_ℤ (pos q)) (negsuc p))
negatives-at-most zero p l = absurd (omega arith)
negatives-at-most (suc q) p l = le→leb p q (omega arith)

-- ---- (a − b) / d rounded up, by the sign of a − b

module _ (a b d : ℕ) (some : 0 < d) where
  not_below : T (le_z (pos a) (pos d *ℤ ceiling (sub_ℕ a b) d +ℤ pos b))
  not_below = by (ltb a b) refl
    where
      by : (c : Bool) → ltb a b ≡ c → T (le_z (pos a) (pos d *ℤ ceiling (cond c (negsuc (b - suc a)) (pos (a - b))) d +ℤ pos b))
      by true e =
          let l = ltb-true a b e in
          product-in a b d (suc (b - suc a) / d) (omega (arith, mul-div-le (suc (b - suc a)) d))
      by false e =
          let l = ltb-false a b e in
          let x = a - b + (d - 1) in
          le→leb a (d * (x / d) + b) (omega (arith, div-add-mod x d, mod-lt x {m = d} some))

  least : (m : ℤ) → T (le_z (pos a) (pos d *ℤ m +ℤ pos b)) → T (le_z (ceiling (sub_ℕ a b) d) m)
  least m t = by (ltb a b) refl m t
    where
      by : (c : Bool) → ltb a b ≡ c → (m : ℤ)
          → T (le_z (pos a) (pos d *ℤ m +ℤ pos b)) → T (le_z (ceiling (cond c (negsuc (b - suc a)) (pos (a - b))) d) m)
      by true e (pos m) t = negative-at-most (suc (b - suc a) / d) m
      by true e (negsuc p) t =
          let l = sum-out a (d * suc p) b t in
          negatives-at-most (suc (b - suc a) / d) p ((le-div_iff_mul-le some).1 (omega (arith, mul_comm (suc p) d)))
      by false e (pos m) t =
          let l = ltb-false a b e in
          let h = leb→le a (d * m + b) t in
          let x = a - b + (d - 1) in
          let less : x / d < suc m = (div-lt_iff_lt-mul some).1 (omega (arith, mul_comm (suc m) d, mul-suc d m)) in
          le→leb (x / d) m (omega arith)
      by false e (negsuc p) t =
          let l = ltb-false a b e in
          absurd (omega (arith, sum-out a (d * suc p) b t, mul-pos some (succ-pos p)))
        where
          succ-pos : (p : ℕ) → 0 < suc p
          succ-pos p = omega arith

pub least-not-below : LeastNotBelow
unfolding serial_limit
least-not-below = record {
  not_below = λ redundant stops. record { le = not_below (2 * redundant) (stops * (stops + 1)) (2 * (stops + 1)) (omega arith) };
  least = λ redundant stops m t. record { le = least (2 * redundant) (stops * (stops + 1)) (2 * (stops + 1)) (omega arith) m t.le };
}

-- 4/2 − 1/2 is rounded up, 6/1 − 0/2 is whole, 5/3 − 2/2 is below 1, 1/4 − 3/2 and 6/7 − 6/2 are negative
half : serial_limit 4 1 ≡ pos 2
half = unfold serial_limit in refl

whole : serial_limit 6 0 ≡ pos 6
whole = unfold serial_limit in refl

below_one : serial_limit 5 2 ≡ pos 1
below_one = unfold serial_limit in refl

below-zero : serial_limit 1 3 ≡ negsuc 0
below-zero = unfold serial_limit in refl

below_two : serial_limit 6 6 ≡ negsuc 1
below_two = unfold serial_limit in refl
