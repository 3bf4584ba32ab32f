-- `blocks::doublings::add_bit` meets its contract: a bit times a byte is a byte. Assumes nothing.
use Prim.Native.Nat.{◌<◌, ◌*◌, ◌%◌}
use native.Mathlib.Omega.{arith}
use Rattle.gf256.proofs.Xor.{bit-cases, low_bit}
use Rattle.blocks.proofs.doublings.add_bit.Goals as goal

pub overflow_mul-result : goal.overflow_mul-result
overflow_mul-result c = record { fits = bit-cases (λ x. x * c.args.c < 256) (c.args.s % 2) (low_bit c.args.s) (omega arith) (omega arith) }
