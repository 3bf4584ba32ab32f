-- `kernel::plan::place` meets its contract. Assumes nothing.
use mathlib.Core.Path.{refl}
use native.Mathlib.Omega.{arith}
use Rattle.kernel.specs.Working as Working
use Rattle.kernel.proofs.plan.place.Goals as goal

pub returns : goal.returns
unfolding Working.place
returns c = (refl, omega arith)
