-- `gf256::logarithm` meets its contract: the table's rule at i. Assumes nothing.
use native.Mathlib.Omega.{arith}
use Rattle.gf256.proofs.logarithm.Goals as goal

pub overflow_cast-result : goal.overflow_cast-result
overflow_cast-result c = omega (arith, c.requires.0.small c.args.i c.requires.2)

pub returns : goal.returns
returns c = (c.requires.0.small c.args.i c.requires.2, c.requires.0.at c.args.i c.requires.1 c.requires.2)
