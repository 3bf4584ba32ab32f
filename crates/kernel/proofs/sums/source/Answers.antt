-- `kernel::sums::source` meets its contract. Assumes nothing.
use native.Mathlib.Omega.{arith}
use Rattle.kernel.proofs.sums.source.Goals as goal

pub overflow_add-starts : goal.overflow_add-starts
overflow_add-starts c = omega (arith, c.requires.1.fits c.args.q (omega arith))

pub read-requires : goal.read-requires
read-requires c = omega (arith, c.requires.1.fits c.args.q (omega arith))
