-- The tests of sizes and of buffers that encoding and decoding begin with. Assumes nothing.
use mathlib.Core.Bool.{Bool, true, false}
use mathlib.Core.Path.{◌≡◌, refl}
use Prim.Native.Nat.{ℕ, ◌-◌, ◌*◌, ◌≤◌}
use native.Mathlib.Nat.{mul-le-mul_right}
use native.Mathlib.Omega.{arith}
use borrow.Author.Tests.{le-leb, lt-ltb}
use Rattle.code.specs.Code.{code_sizes}
use Rattle.code.proofs.Sizes.{Sizes, sizes-of}

pub sizes-fit : (k n b : ℕ) → Sizes k n b → code_sizes k n b ≡ true
unfolding code_sizes
sizes-fit k n b s =
    rw (le-leb 2 k s.data_least, le-leb k 12 s.data_most, lt-ltb k n s.redundant_least)
    (rw (le-leb (n - k) 6 s.redundant_most, le-leb (n - k) k s.redundant_few, le-leb 1 b s.block_least, le-leb b 4096 s.block_most))

pub sizes-unfit : (k n b : ℕ) → (Sizes k n b → ⊥) → code_sizes k n b ≡ false
sizes-unfit k n b not = by (code_sizes k n b) refl
  where
    by : (v : Bool) → code_sizes k n b ≡ v → code_sizes k n b ≡ false
    by true e = absurd (not (sizes-of k n b e))
    by false e = e

-- a table of m blocks fits a machine word
pub small-table : (m b : ℕ) → m ≤ 18 → b ≤ 4096 → m * b ≤ 73728
small-table m b lm lb = omega (arith, mul-le-mul_right b lm)
