-- `lanes::sums` meets its contract: after i turns the sums of the first i places are there. Assumes nothing.
use Rattle.lanes.proofs.Sixteen.{Summing}
use Rattle.lanes.proofs.sums.Given as goal

abbrev pub invariant-loop-i : goal.invariant-loop-i
invariant-loop-i l = Summing l.w l.x l.y l.z l.i l.s
