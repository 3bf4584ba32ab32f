-- The laws of the field of specs/Field.antt. They hold of all numbers where no bound is stated. Assumes nothing.
--     double, times_bits     additive in each factor; multiplications commute with one another
--     product               commutative, associative, additive; 1 is its unit on bytes
--     power                 turns sums into products, and has period 255; every byte but 0 is a power
--     inverse               undoes the product by a byte that is not 0
-- No test runs over pairs: double-byte, one-bits and the tables (Tables.antt) are computed, each over the 256 bytes.
use mathlib.Core.Bool.{true}
use mathlib.Core.Logic.{◌⊎◌, inl, inr}
use mathlib.Core.Path.{◌≡◌, refl, sym, ap, ◌∙◌}
use Prim.Native.Nat.{ℕ, zero, suc, ◌+◌, ◌-◌, ◌*◌, ◌/◌, ◌%◌, ◌<◌}
use native.Mathlib.Nat.{eq-zero-or-pos, zero-mul, one-mul, zero-add, suc-add}
use native.Mathlib.Omega.{arith}
use lib.Bits.{bit_xor, xor_shr}
use lib.Dec.{eqb, ltb}
use lib.ListN.{get_or}
use borrow.Author.Tests.{ltb-true}
use Rattle.gf256.specs.Field.{double, times_bits, product, squares, inverse, power, InverseIsInverse}
use Rattle.basics.proofs.Computed.{every, below, same-below}
use Rattle.gf256.proofs.Tables.{logarithms, logarithms-are}
use Rattle.gf256.proofs.Xor.{bit-cases, low_bit, xor-odd, xor-half, xor-double, bit-xor, xor-bit, xor_self, xor-byte, xor_low, xors}

-- ---- doubling

bit7 : (a b : ℕ) → bit_xor a b / 128 % 2 ≡ bit_xor (a / 128 % 2) (b / 128 % 2)
bit7 a b = rw (xor_shr a b 7) (xor-odd (a / 128) (b / 128))

pub double-add : (a b : ℕ) → double (bit_xor a b) ≡ bit_xor (double a) (double b)
unfolding double
double-add a b =
    rw (xor-double a b, bit7 a b, xor-bit (a / 128 % 2) (b / 128 % 2) 285 (low_bit (a / 128)) (low_bit (b / 128))) (simp xors)

double-zero : double 0 ≡ 0
unfolding double
double-zero = refl

double-bit : (x a : ℕ) → x < 2 → double (x * a) ≡ x * double a
double-bit x a l = bit-cases (λ x. double (x * a) ≡ x * double a) x l (simp (zero-mul, double-zero)) (simp one-mul)

pub double-byte : (a : ℕ) → a < 256 → double a < 256
double-byte a l = ltb-true (double a) 256 (below 256 (λ a. ltb (double a) 256) computed a l)
  where
    computed : every 256 (λ a. ltb (double a) 256) ≡ true
    computed = unfold every double in refl

-- ---- the product by bits

bits-double : (n a b : ℕ) → times_bits n (double a) b ≡ double (times_bits n a b)
unfolding times_bits
bits-double zero a b = sym double-zero
bits-double (suc n) a b =
    rw (times_bits, bits-double n (double a) (b / 2), ← double-bit (b % 2) a (low_bit b))
    (sym (double-add (b % 2 * a) (times_bits n (double a) (b / 2))))

add-bits : (n a b c : ℕ) → times_bits n (bit_xor a b) c ≡ bit_xor (times_bits n a c) (times_bits n b c)
unfolding times_bits
add-bits zero a b c = refl
add-bits (suc n) a b c =
    rw (times_bits, double-add a b, add-bits n (double a) (double b) (c / 2), bit-xor (c % 2) a b (low_bit c)) (simp xors)

bits-add : (n a b c : ℕ) → times_bits n a (bit_xor b c) ≡ bit_xor (times_bits n a b) (times_bits n a c)
unfolding times_bits
bits-add zero a b c = refl
bits-add (suc n) a b c =
    rw (times_bits, xor-half b c, xor-odd b c, bits-add n (double a) (b / 2) (c / 2), xor-bit (b % 2) (c % 2) a (low_bit b) (low_bit c)) (simp xors)

zero_bits : (n b : ℕ) → times_bits n 0 b ≡ 0
zero_bits n b = add-bits n 0 0 b ∙ xor_self (times_bits n 0 b)

bit-bits : (n x a b : ℕ) → x < 2 → times_bits n (x * a) b ≡ x * times_bits n a b
bit-bits n x a b l = bit-cases (λ x. times_bits n (x * a) b ≡ x * times_bits n a b) x l (simp (zero-mul, zero_bits)) (simp one-mul)

-- multiplications commute with one another
bits-bits : (m n a b c : ℕ) → times_bits m (times_bits n a c) b ≡ times_bits n (times_bits m a b) c
unfolding times_bits
bits-bits zero n a b c = sym (zero_bits n c)
bits-bits (suc m) n a b c =
    rw (times_bits, ← bits-double n a c, bits-bits m n (double a) (b / 2) c, ← bit-bits n (b % 2) a c (low_bit b))
    (sym (add-bits n (b % 2 * a) (times_bits m (double a) (b / 2)) c))

bits-byte : (n a b : ℕ) → a < 256 → times_bits n a b < 256
unfolding times_bits
bits-byte zero a b l = omega arith
bits-byte (suc n) a b l =
    xor-byte (b % 2 * a) (times_bits n (double a) (b / 2))
    (bit-cases (λ x. x * a < 256) (b % 2) (low_bit b) (omega arith) (omega arith))
    (bits-byte n (double a) (b / 2) (double-byte a l))

one-bits : (a : ℕ) → a < 256 → times_bits 8 1 a ≡ a
one-bits = same-below 256 (times_bits 8 1) (λ a. a) computed
  where
    computed : every 256 (λ a. eqb (times_bits 8 1 a) a) ≡ true
    computed = unfold every times_bits double in refl

-- ---- the product: the laws above at low bytes

low_byte : (a : ℕ) → a % 256 < 256
low_byte a = omega arith

pub byte_low : (a : ℕ) → a < 256 → a % 256 ≡ a
byte_low a l = omega arith

low-low : (a : ℕ) → a % 256 % 256 ≡ a % 256
low-low a = omega arith

pub product-bits : (a b : ℕ) → a < 256 → b < 256 → product a b ≡ times_bits 8 a b
unfolding product
product-bits a b la lb = rw (byte_low a la, byte_low b lb)

pub product-low : (a b : ℕ) → product a (b % 256) ≡ product a b
unfolding product
product-low a b = rw (low-low b)

pub low_product : (a b : ℕ) → product (a % 256) b ≡ product a b
unfolding product
low_product a b = rw (low-low a)

pub product-byte : (a b : ℕ) → product a b < 256
unfolding product
product-byte a b = bits-byte 8 (a % 256) (b % 256) (low_byte a)

pub one_product : (a : ℕ) → a < 256 → product 1 a ≡ a
one_product a l = product-bits 1 a (omega arith) l ∙ one-bits a l

pub product-comm : (a b : ℕ) → product a b ≡ product b a
unfolding product
product-comm a b = commute (a % 256) (b % 256) (low_byte a) (low_byte b)
  where
    commute : (a b : ℕ) → a < 256 → b < 256 → times_bits 8 a b ≡ times_bits 8 b a
    commute a b la lb =
        ap (λ x. times_bits 8 x b) (sym (one-bits a la)) ∙ bits-bits 8 8 1 b a ∙ ap (λ x. times_bits 8 x a) (one-bits b lb)

pub product-add : (a b c : ℕ) → product a (bit_xor b c) ≡ bit_xor (product a b) (product a c)
unfolding product
product-add a b c = rw (xor_low b c) (bits-add 8 (a % 256) (b % 256) (c % 256))

pub add-product : (a b c : ℕ) → product (bit_xor a b) c ≡ bit_xor (product a c) (product b c)
add-product a b c = product-comm (bit_xor a b) c ∙ product-add c a b ∙ rw (product-comm c a, product-comm c b)

pub zero-product : (a : ℕ) → product 0 a ≡ 0
zero-product a = add-product 0 0 a ∙ xor_self (product 0 a)

pub product-zero : (a : ℕ) → product a 0 ≡ 0
product-zero a = product-add a 0 0 ∙ xor_self (product a 0)

pub product-assoc : (a b c : ℕ) → product (product a b) c ≡ product a (product b c)
product-assoc a b c = ap (λ x. product x c) (product-comm a b) ∙ swap ∙ product-comm (product b c) a
  where
    swap : product (product b a) c ≡ product (product b c) a
    swap = unfold product in
        rw (byte_low (product b a) (product-byte b a), byte_low (product b c) (product-byte b c)) (bits-bits 8 8 (b % 256) (c % 256) (a % 256))

pub product-left : (a b c : ℕ) → product a (product b c) ≡ product b (product a c)
product-left a b c = sym (product-assoc a b c) ∙ rw (product-comm a b) (product-assoc b a c)

-- the normal form of a sum of products: `simp ring` proves an identity of the field
pub ruleset ring = (xors, product-assoc, product-comm, product-left, product-add, add-product, product-zero, zero-product)

pub product-double : (a b : ℕ) → a < 256 → product (double a) b ≡ double (product a b)
unfolding product
product-double a b l = rw (byte_low (double a) (double-byte a l), byte_low a l) (bits-double 8 a (b % 256))

-- ---- the powers of x

pub power-byte : (n : ℕ) → power n < 256
unfolding power
power-byte zero = omega arith
power-byte (suc n) = double-byte (power n) (power-byte n)

pub power-add : (m n : ℕ) → power (m + n) ≡ product (power m) (power n)
unfolding power
power-add zero n = rw (zero-add n) (sym (one_product (power n) (power-byte n)))
power-add (suc m) n = rw (suc-add m n, power, power-add m n) (sym (product-double (power m) (power n) (power-byte m)))

power-255 : power 255 ≡ 1
unfolding power double
power-255 = refl

pub power-turns : (k n : ℕ) → power (k * 255 + n) ≡ power n
power-turns zero n = rw (zero-mul, zero-add)
power-turns (suc k) n =
    let one_more : suc k * 255 + n ≡ 255 + (k * 255 + n) = omega arith in
    rw (one_more, power-add 255 (k * 255 + n), power-255, power-turns k n) (one_product (power n) (power-byte n))

pub power-mod : (n : ℕ) → power (n % 255) ≡ power n
power-mod n =
    let parts : n ≡ n / 255 * 255 + n % 255 = omega arith in
    sym (ap power parts ∙ power-turns (n / 255) (n % 255))

-- every byte but 0 is a power
abbrev pub logarithm : ℕ → ℕ
logarithm a = get_or logarithms a 0

pub power-logarithm : (a : ℕ) → 0 < a → a < 256 → power (logarithm a) ≡ a
power-logarithm = logarithms-are.at

-- ---- the inverse

pub inverse-byte : (a : ℕ) → inverse a < 256
unfolding inverse squares
inverse-byte a = product-byte (product a a) (squares 6 (product (product a a) (product a a)))

pub inverse-zero : inverse 0 ≡ 0
unfolding inverse squares
inverse-zero = rw (zero-product 0) (zero-product (squares 6 (product 0 0)))

-- m + 2 m + 4 m .., n terms
spread : ℕ → ℕ → ℕ
spread zero m = 0
spread (suc n) m = m + spread n (m + m)

squares-power : (n m : ℕ) → squares n (power m) ≡ power (spread n m)
unfolding squares spread power
squares-power zero m = refl
squares-power (suc n) m = rw (squares, ← power-add m m, squares-power n (m + m)) (sym (power-add m (spread n (m + m))))

-- the inverse of x^m is x^(254 m)
inverse-power : (m : ℕ) → inverse (power m) ≡ power (254 * m)
unfolding inverse spread
inverse-power m =
    let all : spread 7 (m + m) ≡ 254 * m = omega arith in
    rw (← power-add m m, squares-power 7 (m + m), all)

-- the same within the table of powers
pub inverse-by-logarithm : (m a : ℕ) → m < 255 → power m ≡ a → power (255 - m) ≡ inverse a
inverse-by-logarithm m a l e =
    let same : m * 255 + (255 - m) ≡ 1 * 255 + 254 * m = omega arith in
    sym (power-turns m (255 - m)) ∙ ap power same ∙ power-turns 1 (254 * m) ∙ sym (inverse-power m) ∙ ap inverse e

power-inverse : (m : ℕ) → product (inverse (power m)) (power m) ≡ 1
unfolding power
power-inverse m =
    let whole : 254 * m + m ≡ m * 255 + 0 = omega arith in
    rw (inverse-power m, ← power-add (254 * m) m, whole) (power-turns m 0)

pub inverse-product : InverseIsInverse
inverse-product a p l = rw (← power-logarithm a p l) (power-inverse (logarithm a))

pub inverse-cancel : (a b : ℕ) → 0 < a → a < 256 → b < 256 → product (inverse a) (product a b) ≡ b
inverse-cancel a b p la lb = sym (product-assoc (inverse a) a b) ∙ rw (inverse-product a p la) (one_product b lb)

-- no zero divisors
pub product-nonzero : (a b : ℕ) → 0 < a → a < 256 → 0 < b → b < 256 → 0 < product a b
product-nonzero a b pa la pb lb = by (eq-zero-or-pos (product a b))
  where
    by : (product a b ≡ 0) ⊎ (0 < product a b) → 0 < product a b
    by (inl z) = absurd (omega (arith, inverse-cancel a b pa la lb, ap (product (inverse a)) z, product-zero (inverse a)))
    by (inr p) = p

-- ---- what the code does about 0

-- s is t, where s is 0 or r as a is 0 or not, and t is so too
pub unless : {r s : ℕ} (a t : ℕ) → (a ≡ 0 → s ≡ 0) × (0 < a → s ≡ r) → (a ≡ 0 → t ≡ 0) → (0 < a → r ≡ t) → s ≡ t
unless {r} {s} a t test zero_is else_is = by (eq-zero-or-pos a)
  where
    by : (a ≡ 0) ⊎ (0 < a) → s ≡ t
    by (inl z) = test.0 z ∙ sym (zero_is z)
    by (inr p) = test.1 p ∙ else_is p
