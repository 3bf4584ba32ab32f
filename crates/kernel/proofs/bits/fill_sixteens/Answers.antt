-- `kernel::bits::fill_sixteens` meets its contract: after c turns the first c sixteens are there. Assumes nothing.
use mathlib.Core.Path.{refl}
use native.Mathlib.Omega.{arith}
use Rattle.blocks.specs.Blocks.{set_part}
use Rattle.kernel.proofs.Tiles.{sixteens-turn}
use Rattle.kernel.proofs.bits.fill_sixteens.Goals as goal

pub loop-c-init : goal.loop-c-init
loop-c-init g c = (refl, λ i l. absurd (omega arith))

pub loop-c-preserved : goal.loop-c-preserved
unfolding set_part
loop-c-preserved g c =
    sixteens-turn _ _ _ _ _ _ _ c.loop-c.c c.loop-c.out _ _ (omega arith) c.loop-c.invariant (omega arith) c.write.ensures c.sixteen.ensures
