-- The bits of a number: an operation at one bit, the power that has one bit alone, the count of the lowest m. Assumes nothing.
use mathlib.Core.Bool.{cond}
use mathlib.Core.Path.{◌≡◌, refl, sym, ap, ◌∙◌}
use Prim.Native.Nat.{ℕ, zero, suc, ◌+◌, ◌-◌, ◌*◌, ◌/◌, ◌%◌, ◌^◌, ◌<◌}
use native.Mathlib.Nat.{add_comm, mod-lt, mod-one, div_self, div-eq_of_lt, mul-mod_left, pow-suc}
use native.Mathlib.Numerals.{one-add}
use native.Mathlib.Decide.{ℕ_discrete, dec_lt}
use native.Mathlib.Omega.{arith}
use lib.Bits.{bit_or, bit_xor, or_shr, or_mod, xor_shr, xor_mod}
use lib.Count.{ones, ones_in, ones_cat}
use lib.Dec.{eqb}
use lib.Pow.{pow_pos, pow-lt, pow-add, shl-shr, mod-pow-add}
use borrow.Author.Tests.{eq-eqb, ne_eqb}
use Rattle.gf256.proofs.Xor.{bit-cases}
use Rattle.code.proofs.NodeSets.{count}

abbrev pub bit : ℕ → ℕ → ℕ
bit a i = a / 2 ^ i % 2

pub bit_below : (a i : ℕ) → bit a i < 2
bit_below a i = mod-lt (a / 2 ^ i) (omega arith)

-- an operation that works on each bit apart does so at bit i
pub bit-or : (a b i : ℕ) → bit (bit_or a b) i ≡ bit_or (bit a i) (bit b i)
bit-or a b i = ap (λ x. x % 2) (or_shr a b i) ∙ or_mod (a / 2 ^ i) (b / 2 ^ i) 1

pub bit-xor : (a b i : ℕ) → bit (bit_xor a b) i ≡ bit_xor (bit a i) (bit b i)
bit-xor a b i = ap (λ x. x % 2) (xor_shr a b i) ∙ xor_mod (a / 2 ^ i) (b / 2 ^ i) 1

-- 2 ^ p has bit p alone
pub bit-power : (p i : ℕ) → bit (2 ^ p) i ≡ cond (eqb i p) 1 0
bit-power p i = by (ℕ_discrete i p) (dec_lt i p)
  where
    high : (d : ℕ) → 0 < d → 2 ^ (d + i) / 2 ^ i % 2 ≡ 0
    high zero l = absurd (omega arith)
    high (suc d) l = rw (pow-add 2 (suc d) i, shl-shr (2 ^ suc d) i, pow-suc 2 d) (mul-mod_left (2 ^ d) 2)

    by : Dec (i ≡ p) → Dec (i < p) → bit (2 ^ p) i ≡ cond (eqb i p) 1 0
    by (yes e) l = rw (eq-eqb i p e, e, div_self (pow_pos p))
    by (no n) (yes l) =
        let e : p ≡ (p - i) + i = omega arith in
        ap (λ q. bit (2 ^ q) i) e ∙ high (p - i) (omega arith) ∙ sym (rw (ne_eqb i p n))
    by (no n) (no l) = rw (ne_eqb i p n, div-eq_of_lt (pow-lt {i = p} {j = i} (omega arith)))

-- the lowest m + 1 bits are bit m and the lowest m
pub low-more : (a m : ℕ) → a % 2 ^ suc m ≡ bit a m * 2 ^ m + a % 2 ^ m
low-more a m = ap (λ x. a % 2 ^ x) (sym (one-add m)) ∙ mod-pow-add a 1 m

digit : (b : ℕ) → b < 2 → ones b ≡ cond (eqb b 1) 1 0
unfolding ones ones_in
digit b l = bit-cases (λ b. ones b ≡ cond (eqb b 1) 1 0) b l refl refl

-- how many of the lowest m are set
pub ones_low : (a m : ℕ) → ones (a % 2 ^ m) ≡ count m (λ j. eqb (bit a (j - 1)) 1)
unfolding count
ones_low a zero = ap ones (mod-one a) ∙ digit 0 (omega arith)
ones_low a (suc m) =
    let here : suc m - 1 ≡ m = omega arith in
    ap ones (low-more a m) ∙ ones_cat m (bit a m) (a % 2 ^ m) (mod-lt a (pow_pos m))
    ∙ rw (count, here, ones_low a m, digit (bit a m) (bit_below a m)) (add_comm (cond (eqb (bit a m) 1) 1 0) (count m (λ j. eqb (bit a (j - 1)) 1)))
