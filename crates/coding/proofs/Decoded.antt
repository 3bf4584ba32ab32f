-- The answers of decoding, once the sizes and the buffers fit. Assumes nothing.
use mathlib.Core.Bool.{true, false}
use mathlib.Core.List.{List}
use mathlib.Core.Path.{◌≡◌}
use Prim.Native.Nat.{ℕ, ◌*◌, ◌≤◌, ◌<◌}
use native.Mathlib.Nat.{mul-le-mul_right}
use native.Mathlib.Omega.{arith}
use lib.ListN.{length}
use borrow.Author.Tests.{eq-eqb, lt-ltb, le-ltb}
use Rattle.code.specs.Code.{code_sizes}
use Rattle.code.specs.Decode.{has, size, recovered_table}
use Rattle.code.specs.Calls.{accepted, refused, decoding, is_in, some_outside, given_set}
use Rattle.code.specs.declared.CodeRefusal.TheVariants.{OutOfRange, TooFew}
use Rattle.code.proofs.Sizes.{Sizes, sizes-of}
use Rattle.code.proofs.NodeSets.{set_of-has}
use Rattle.code.proofs.Demand2.{is-in-most, given-invertible}

module _ (k n b : ℕ) (nodes blocks out : List ℕ) (sizes : code_sizes k n b ≡ true) (full : length blocks ≡ n * b) (room : length out ≡ k * b) where
  pub decoding-outside : some_outside n nodes ≡ true → decoding k n b nodes blocks out ≡ refused OutOfRange out
  decoding-outside e = rw (sizes, eq-eqb (length blocks) (n * b) full, eq-eqb (length out) (k * b) room, e)

  pub decoding-few : some_outside n nodes ≡ false → size (given_set nodes) < k → decoding k n b nodes blocks out ≡ refused (TooFew (size (given_set nodes))) out
  decoding-few e l =
      rw (sizes, eq-eqb (length blocks) (n * b) full, eq-eqb (length out) (k * b) room, e, lt-ltb (size (given_set nodes)) k l)

  -- the rows of k nodes have an inverse: 12 is never answered
  pub decoding-accepted : some_outside n nodes ≡ false → k ≤ size (given_set nodes)
      → decoding k n b nodes blocks out ≡ accepted (recovered_table k k b (given_set nodes) blocks)
  decoding-accepted e l =
      let z : Sizes k n b = sizes-of k n b sizes in
      rw (sizes, eq-eqb (length blocks) (n * b) full, eq-eqb (length out) (k * b) room, e)
      (rw (le-ltb (size (given_set nodes)) k l, given-invertible k nodes (omega arith) l))

  -- the table has the block of each node given
  pub given-held : some_outside n nodes ≡ false → (j : ℕ) → has (given_set nodes) j ≡ true → j * b ≤ length blocks
  given-held e j h = omega (arith, full, mul-le-mul_right b (is-in-most n nodes j e (set_of-has (is_in nodes) j h)))
