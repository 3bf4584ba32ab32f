-- `blocks::copy` meets its contract: after i turns dst has the first i bytes of src. Assumes nothing.
use mathlib.Core.Path.{refl}
use native.Mathlib.Omega.{arith}
use Rattle.blocks.proofs.Fill.{filled_none, filled-turn, filled-all}
use Rattle.blocks.proofs.copy.Goals as goal

pub loop-i-init : goal.loop-i-init
loop-i-init c = filled_none _ _

pub loop-i-preserved : goal.loop-i-preserved
loop-i-preserved c = filled-turn _ _ _ _ (omega arith) c.loop-i.invariant _ (omega arith) refl

pub returns : goal.returns
returns c = filled-all _ _ _ _ (omega arith) c.loop-i.invariant (omega arith)
