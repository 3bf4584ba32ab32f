-- `lanes::sums` meets its contract: after i turns the sums of the first i places are there. Assumes nothing.
use mathlib.Core.Path.{◌≡◌}
use native.Mathlib.Omega.{arith}
use Rattle.lanes.proofs.Sixteen.{stored, fifteen, summing-none, summing-turn, summing-all}
use Rattle.lanes.proofs.sums.Goals as goal

pub loop-i-init : goal.loop-i-init
loop-i-init c = summing-none _ _ _ _ _ c.requires

pub loop-i-preserved : goal.loop-i-preserved
unfolding stored fifteen
loop-i-preserved c = summing-turn _ _ _ _ _ _ (omega arith) c.loop-i.invariant

pub returns : goal.returns
returns c = let last : c.loop-i.i ≡ 16 = omega arith in
    summing-all _ _ _ _ _ (rw last at c.loop-i.invariant)
