-- Document 01, "Field and code": bytes are elements of GF(256), polynomial 0x11D; addition and subtraction are XOR.
-- An element is a byte: bit i is the coefficient of x^i. The polynomial x^8 + x^4 + x^3 + x^2 + 1 is 0x11D, 285.
-- No table is named here. The operations take any number by its low byte, so that the field's laws hold of all numbers.
-- Assumes nothing.
use Rattle.std.specs.Prelude.{List, ◌≡◌, ℕ, zero, suc, ◌*◌, ◌/◌, ◌%◌, ◌<◌, get_or}
use Rattle.std.specs.Int.Bits.{bit_xor}

-- x times a: shifted by one place, less the polynomial where bit 7 was set
unfoldable pub double : ℕ → ℕ
double a = bit_xor (a * 2) (a / 128 % 2 * 285)

-- a times the n lowest bits of b: a where b's lowest bit is set, plus x times a, times the bits above it
unfoldable pub times_bits : ℕ → ℕ → ℕ → ℕ
times_bits zero a b = 0
times_bits (suc n) a b = bit_xor (b % 2 * a) (times_bits n (double a) (b / 2))

-- the product of two bytes
unfoldable pub product : ℕ → ℕ → ℕ
product a b = times_bits 8 (a % 256) (b % 256)

-- a^1 times a^2 times a^4 .., n factors
unfoldable pub squares : ℕ → ℕ → ℕ
squares zero a = 1
squares (suc n) a = product a (squares n (product a a))

-- the inverse of a byte that is not 0: a^254 = a^2 times a^4 .. times a^128, since a^255 = 1
unfoldable pub inverse : ℕ → ℕ
inverse a = squares 7 (product a a)

-- that it is the inverse: times its argument it is 1. Proved: inverse-product (proofs/Laws.antt)
abbrev pub InverseIsInverse : Type 0
InverseIsInverse = (a : ℕ) → 0 < a → a < 256 → product (inverse a) a ≡ 1

-- f 1 + .. + f k
unfoldable pub sum : ℕ → (ℕ → ℕ) → ℕ
sum zero f = 0
sum (suc k) f = bit_xor (sum k f) (f (suc k))

-- x^n
unfoldable pub power : ℕ → ℕ
power zero = 1
power (suc n) = double (power n)

-- "The power table (255 numbers)": x^i at each i
pub record IsPowers (t : List ℕ) : Type 0 where
  pub at : (i : ℕ) → i < 255 → get_or t i 0 ≡ power i

-- "and its logarithm table (256)": at each a but 0 the i below 255 with x^i = a. "Entry 0 is never used and holds 0"
pub record IsLogarithms (t : List ℕ) : Type 0 where
  pub unused : get_or t 0 0 ≡ 0
  pub small : (a : ℕ) → a < 256 → get_or t a 0 < 255
  pub at : (a : ℕ) → 0 < a → a < 256 → power (get_or t a 0) ≡ a
