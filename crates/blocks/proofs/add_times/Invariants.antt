-- `blocks::add_times` meets its contract: after i turns dst has the first i bytes of the sum. Assumes nothing.
use Rattle.blocks.specs.Blocks.{add_times}
use Rattle.blocks.proofs.Fill.{Filled}
use Rattle.blocks.proofs.add_times.Given as goal

abbrev pub invariant-loop-i : goal.invariant-loop-i
invariant-loop-i l = Filled l.i (add_times l.c l.initial.dst l.src) l.initial.dst l.dst
