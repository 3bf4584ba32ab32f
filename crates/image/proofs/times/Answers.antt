-- `image::times` meets its contract. Assumes nothing.
use mathlib.Core.Path.{refl}
use native.Mathlib.Omega.{arith}
use Rattle.code.proofs.LimitLaws.{small-table}
use Rattle.image.proofs.times.Goals as goal

pub overflow_mul-result : goal.overflow_mul-result
overflow_mul-result c = omega (arith, small-table c.args.count c.args.width c.requires.0 c.requires.1)

pub returns : goal.returns
returns c = (refl, small-table c.args.count c.args.width c.requires.0 c.requires.1)
