-- `kernel::sums::tile_group` meets its contract: after c turns the group's sums of the first c times 16 bytes are there. Assumes nothing.
use Rattle.kernel.specs.Working.{Summed}
use Rattle.kernel.proofs.sums.tile_group.Given as goal

abbrev pub invariant-loop-c : goal.invariant-loop-c
invariant-loop-c l = Summed l.t l.starts l.p l.n l.g l.c l.s
