-- `kernel::sums::tile_sums` meets its contract: after g turns the sums of the first g groups are there. Assumes nothing.
use mathlib.Core.Path.{◌≡◌}
use native.Mathlib.Omega.{arith}
use Rattle.kernel.proofs.Tiles.{summed-none, prepared}
use Rattle.kernel.proofs.sums.tile_sums.Goals as goal

pub loop-g-init : goal.loop-g-init
loop-g-init c = summed-none _ _ _ _ c.requires.1 _ c.requires.0

pub returns : goal.returns
returns c = let last : c.loop-g.g ≡ 3 = omega arith in
    prepared _ _ _ _ c.requires.1 _ (rw last at c.loop-g.invariant)
