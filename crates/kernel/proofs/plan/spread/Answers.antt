-- `kernel::plan::spread` meets its contract: computed over the bytes. Assumes nothing.
use Prim.Native.Nat.{◌*◌}
use native.Mathlib.Omega.{arith}
use lib.Bits.{bit_and, and_le_r}
use Rattle.kernel.proofs.Tiles.{spread-is}
use borrow.Author.Rules.{rules}
use Rattle.kernel.proofs.plan.spread.Goals as goal

pub overflow_mul-quarters : goal.overflow_mul-quarters
overflow_mul-quarters c = omega (arith, and_le_r (c.args.w * 4097) 983055)

pub overflow_mul-result : goal.overflow_mul-result
overflow_mul-result c = omega (arith, and_le_r (bit_and (c.args.w * 4097) 983055 * 65) 50529027)

pub returns : goal.returns
returns c = let w = c.args.w in
    (spread-is w (search rules), and_le_r (bit_and (bit_and (w * 4097) 983055 * 65) 50529027 * 9) 286331153)
