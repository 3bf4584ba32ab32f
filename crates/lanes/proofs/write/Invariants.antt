-- `lanes::write` meets its contract: after l turns the first l bytes are there. Assumes nothing.
use Rattle.blocks.proofs.Fill.{Filled}
use Rattle.lanes.proofs.write.Given as goal

abbrev pub invariant-loop-l : goal.invariant-loop-l
invariant-loop-l l = Filled l.l l.bytes l.initial.out l.out
