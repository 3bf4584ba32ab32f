-- `gf256::double` meets its contract: within a byte, the polynomial less x^8 is 29. Computed over the bytes. Assumes nothing.
use mathlib.Core.Path.{refl}
use Prim.Native.Nat.{◌*◌, ◌/◌, ◌%◌}
use borrow.Author.Rules.{rules}
use lib.Bits.{bit_xor}
use Rattle.gf256.specs.Field.{double}
use Rattle.basics.proofs.Computed.{every, same-below}
use Rattle.gf256.proofs.double.Goals as goal

pub returns : goal.returns
unfolding every double
returns c = same-below 256 (λ a. bit_xor (a % 128 * 2) (a / 128 * 29)) double refl c.args.a (search rules)
