-- `kernel::sums::tile_sums` meets its contract: after g turns the sums of the first g groups are there. Assumes nothing.
use Rattle.kernel.specs.Working.{Summed}
use Rattle.kernel.proofs.sums.tile_sums.Given as goal

abbrev pub invariant-loop-g : goal.invariant-loop-g
invariant-loop-g l = Summed l.t l.starts l.p l.n l.g 0 l.s
