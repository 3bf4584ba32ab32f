-- "Each block has a single home", and blocks in numbers. Assumes nothing.
use mathlib.Core.Path.{◌≡◌, refl}
use Prim.Native.Nat.{ℕ, ◌+◌, ◌-◌, ◌*◌, ◌%◌, ◌≤◌}
use native.Mathlib.Nat.{mod-lt, div-add-mod', div-lt_iff_lt-mul, le-div_iff_mul-le}
use native.Mathlib.Omega.{arith}
use lib.Arith.{digits_div, digits_mod}
use Rattle.layout.specs.Layout.{stripe_of, position_of, block_at, SingleHome}

-- what is counted from 1 by a remainder is one of 1 to n
pub from_one : (n x : ℕ) → 1 ≤ n → (1 ≤ x % n + 1) × (x % n + 1 ≤ n)
from_one n x l = (omega arith, omega (arith, mod-lt x {m = n} l))

block : (k b : ℕ) → block_at k (stripe_of k b) (position_of k b) ≡ b
block k b = omega (arith, div-add-mod' b k)

position : (k s i : ℕ) → 1 ≤ i → i ≤ k → position_of k (block_at k s i) ≡ i
position k s i l m =
    let e : (s * k + (i - 1)) % k ≡ i - 1 = digits_mod s (omega arith) in
    omega (arith, e)

pub single-home : SingleHome
single-home = record {
  within = from_one;
  block = λ k b l. block k b;
  stripe = λ k s i l m. digits_div s (omega arith);
  position = position;
  inside = λ k b stripes l. (div-lt_iff_lt-mul l).0;
  outside = λ k b stripes l. (le-div_iff_mul-le l).0;
}

-- blocks 0, 2, 3 and 4 where a stripe has three
first : (stripe_of 3 0 ≡ 0) × (position_of 3 0 ≡ 1)
first = (refl, refl)

last-of-first : (stripe_of 3 2 ≡ 0) × (position_of 3 2 ≡ 3)
last-of-first = (refl, refl)

first-of-second : (stripe_of 3 3 ≡ 1) × (position_of 3 3 ≡ 1)
first-of-second = (refl, refl)

second-of-second : (stripe_of 3 4 ≡ 1) × (position_of 3 4 ≡ 2)
second-of-second = (refl, refl)
