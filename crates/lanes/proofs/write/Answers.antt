-- `lanes::write` meets its contract: after l turns the first l bytes are there. Assumes nothing.
use mathlib.Core.Path.{refl}
use native.Mathlib.Omega.{arith}
use Rattle.blocks.proofs.Fill.{filled_none, filled-turn, filled-all}
use Rattle.lanes.proofs.write.Goals as goal

pub loop-l-init : goal.loop-l-init
loop-l-init c = filled_none _ _

pub loop-l-preserved : goal.loop-l-preserved
loop-l-preserved c = filled-turn _ _ _ _ (omega arith) c.loop-l.invariant _ (omega arith) refl

pub returns : goal.returns
returns c = filled-all _ _ _ _ (omega arith) c.loop-l.invariant (omega arith)
