-- `blocks::swap` meets its contract: after i turns block has the first i bytes of the value, and difference those of the difference. Assumes nothing.
use Rattle.blocks.specs.Blocks as Blocks
use Rattle.blocks.proofs.Fill.{Filled}
use Rattle.blocks.proofs.swap.Given as goal

abbrev pub invariant-loop-i : goal.invariant-loop-i
invariant-loop-i l = Filled l.i l.value l.initial.block l.block × Filled l.i (Blocks.difference l.value l.initial.block) l.initial.difference l.difference
