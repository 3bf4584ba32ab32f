-- `kernel::plan::pack_all` meets its contract: after i turns the first i are there. Assumes nothing.
use mathlib.Core.Path.{refl}
use native.Mathlib.Omega.{arith}
use Rattle.blocks.proofs.Entries.{begun-none, begun-turn}
use Rattle.kernel.proofs.plan.pack_all.Goals as goal

pub loop-i-init : goal.loop-i-init
loop-i-init c = begun-none _ _ _ refl

pub loop-i-preserved : goal.loop-i-preserved
loop-i-preserved c = begun-turn _ _ _ _ _ (omega arith) c.pack.ensures c.loop-i.invariant

pub returns : goal.returns
returns c = λ i h. c.loop-i.invariant.done i (omega arith)
