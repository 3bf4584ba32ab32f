-- `blocks::copy` meets its contract: after i turns dst has the first i bytes of src. Assumes nothing.
use Rattle.blocks.proofs.Fill.{Filled}
use Rattle.blocks.proofs.copy.Given as goal

abbrev pub invariant-loop-i : goal.invariant-loop-i
invariant-loop-i l = Filled l.i l.src l.initial.dst l.dst
