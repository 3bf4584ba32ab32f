-- A number is read back from its bytes, over the width. Assumes nothing.
use mathlib.Core.Path.{◌≡◌, refl, ap}
use Prim.Native.Nat.{ℕ, zero, suc, ◌*◌, ◌/◌, ◌<◌}
use native.Mathlib.Nat.{mod-add-div}
use native.Mathlib.Omega.{arith}
use lib.ListN.{length}
use Rattle.octets.specs.Octets.{low_first, number}

-- one more than the largest number of w bytes
abbrev pub bound : ℕ → ℕ
bound zero = 1
bound (suc w) = 256 * bound w

pub length-low_first : (w n : ℕ) → length (low_first w n) ≡ w
length-low_first zero n = refl
length-low_first (suc w) n = ap suc (length-low_first w (n / 256))

pub number-low_first : (w n : ℕ) → n < bound w → number (low_first w n) ≡ n
number-low_first zero n h = omega arith
number-low_first (suc w) n h =
    let b = bound w in
    let h2 : n < 256 * b = h in
    rw (number-low_first w (n / 256) (omega (arith, mod-add-div n 256))) (mod-add-div n 256)
