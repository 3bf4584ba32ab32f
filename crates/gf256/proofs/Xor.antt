-- The laws of `bit_xor`, addition in the field, that the library lacks; with those that it has, to be found in one place. Assumes nothing.
use mathlib.Core.Path.{◌≡◌, refl, sym, ◌∙◌}
use Prim.Native.Nat.{ℕ, zero, suc, ◌*◌, ◌/◌, ◌%◌, ◌<◌}
use native.Mathlib.Nat.{zero-mul, one-mul}
use native.Mathlib.Omega.{arith}
use lib.Arith.{bin_ind}
use lib.Bits.{bit_xor, xor_shr, xor_mod, xor_lt}
pub use lib.Bits.{xor_comm, xor_self, xor_zero_l, xor_zero_r}

-- ---- bit by bit

-- what holds of 0 and of 1 holds of a bit
pub bit-cases : (P : ℕ → Type 0) (b : ℕ) → b < 2 → P 0 → P 1 → P b
bit-cases P zero l p q = p
bit-cases P (suc zero) l p q = q
bit-cases P (suc (suc b)) l p q = absurd (omega arith)

pub low_bit : (a : ℕ) → a % 2 < 2
low_bit a = omega arith

-- two numbers are equal if their halves and their lowest bits are
by_digits : (a b : ℕ) → a / 2 ≡ b / 2 → a % 2 ≡ b % 2 → a ≡ b
by_digits a b h l = omega arith

pub xor-half : (a b : ℕ) → bit_xor a b / 2 ≡ bit_xor (a / 2) (b / 2)
xor-half a b = xor_shr a b 1

pub xor-odd : (a b : ℕ) → bit_xor a b % 2 ≡ bit_xor (a % 2) (b % 2)
xor-odd a b = xor_mod a b 1

-- ---- associativity, and the normal form of a sum

assoc-bits : (a b c : ℕ) → a < 2 → b < 2 → c < 2 → bit_xor (bit_xor a b) c ≡ bit_xor a (bit_xor b c)
assoc-bits a b c la lb lc =
    bit-cases (λ a. bit_xor (bit_xor a b) c ≡ bit_xor a (bit_xor b c)) a la refl
    (bit-cases (λ b. bit_xor (bit_xor 1 b) c ≡ bit_xor 1 (bit_xor b c)) b lb refl
    (bit-cases (λ c. bit_xor (bit_xor 1 1) c ≡ bit_xor 1 (bit_xor 1 c)) c lc refl refl))

pub xor_assoc : (a b c : ℕ) → bit_xor (bit_xor a b) c ≡ bit_xor a (bit_xor b c)
xor_assoc =
    bin_ind (λ a. (b c : ℕ) → bit_xor (bit_xor a b) c ≡ bit_xor a (bit_xor b c)) (λ b c. refl)
    (λ a ih b c.
    by_digits (bit_xor (bit_xor a b) c) (bit_xor a (bit_xor b c)) (simp xor-half (ih (b / 2) (c / 2)))
    (simp xor-odd (assoc-bits (a % 2) (b % 2) (c % 2) (low_bit a) (low_bit b) (low_bit c))))

pub xor-left : (a b c : ℕ) → bit_xor a (bit_xor b c) ≡ bit_xor b (bit_xor a c)
xor-left a b c = sym (xor_assoc a b c) ∙ rw (xor_comm a b) (xor_assoc b a c)

-- what is added twice is gone
pub xor-cancel : (a b : ℕ) → bit_xor a (bit_xor a b) ≡ b
xor-cancel a b = sym (xor_assoc a a b) ∙ rw (xor_self a)

-- `simp xors` proves an identity of sums
pub ruleset xors = (xor_assoc, xor_comm, xor-left, xor_zero_r, xor_self, xor-cancel)

-- ---- bytes

pub xor-byte : (a b : ℕ) → a < 256 → b < 256 → bit_xor a b < 256
xor-byte = xor_lt 8

pub xor_low : (a b : ℕ) → bit_xor a b % 256 ≡ bit_xor (a % 256) (b % 256)
xor_low a b = xor_mod a b 8

-- ---- sums times a bit, and bits times a number

pub xor-double : (a b : ℕ) → bit_xor a b * 2 ≡ bit_xor (a * 2) (b * 2)
xor-double a b =
    let half : (n : ℕ) → n * 2 / 2 ≡ n = λ n. omega arith in
    let even : (n : ℕ) → n * 2 % 2 ≡ 0 = λ n. omega arith in
    by_digits (bit_xor a b * 2) (bit_xor (a * 2) (b * 2)) (simp (xor-half, half)) (simp (xor-odd, even))

pub bit-xor : (x a b : ℕ) → x < 2 → x * bit_xor a b ≡ bit_xor (x * a) (x * b)
bit-xor x a b l = bit-cases (λ x. x * bit_xor a b ≡ bit_xor (x * a) (x * b)) x l (simp zero-mul) (simp one-mul)

pub xor-bit : (x y a : ℕ) → x < 2 → y < 2 → bit_xor x y * a ≡ bit_xor (x * a) (y * a)
xor-bit x y a lx ly =
    bit-cases (λ x. bit_xor x y * a ≡ bit_xor (x * a) (y * a)) x lx (simp zero-mul)
    (bit-cases (λ y. bit_xor 1 y * a ≡ bit_xor (1 * a) (y * a)) y ly (simp (zero-mul, xor_zero_r)) (simp (zero-mul, xor_self)))
