-- `kernel::bits::fill_sixteens` meets its contract: after c turns the first c sixteens are there. Assumes nothing.
use lib.ListN.{length}
use Rattle.kernel.specs.Working.{Lowest}
use Rattle.kernel.proofs.bits.fill_sixteens.Given as goal

abbrev pub invariant-loop-c : goal.invariant-loop-c
invariant-loop-c g l = Lowest g.W.Bits.many l.s l.x l.y l.z l.e (length l.initial.out) l.c l.out
