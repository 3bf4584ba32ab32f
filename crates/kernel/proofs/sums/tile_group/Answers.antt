-- `kernel::sums::tile_group` meets its contract: after c turns the group's sums of the first c times 16 bytes are there. Assumes nothing.
use mathlib.Core.Path.{◌≡◌}
use Prim.Native.Nat.{◌+◌, ◌-◌, ◌*◌}
use native.Mathlib.Omega.{arith}
use Rattle.blocks.proofs.Parts.{lent_length}
use Rattle.blocks.specs.Blocks.{set_part}
use Rattle.kernel.proofs.Tiles.{summed_turn, summed-group}
use Rattle.kernel.proofs.sums.tile_group.Goals as goal

pub loop-c-init : goal.loop-c-init
loop-c-init c = c.requires.3

pub overflow_add-p : goal.overflow_add-p
overflow_add-p c = omega (arith, c.requires.2.fits 0 (omega arith))

pub group_sums-requires : goal.group_sums-requires
group_sums-requires c = let args = c.args in
    let k = c.loop-c.c in
    let all : args.p + 16 * k + (args.n - 16 * k) ≡ args.p + args.n = omega arith in
    (lent_length (k * 768 + args.g * 256) 256 c.loop-c.s (omega (arith, c.loop-c.invariant.size)), c.requires.1, rw all c.requires.2)

pub loop-c-preserved : goal.loop-c-preserved
unfolding set_part
loop-c-preserved c = summed_turn _ _ _ _ c.requires.0 _ _ _ _ c.requires.1 (omega arith) c.loop-c.invariant c.group_sums.ensures

pub returns : goal.returns
returns c = summed-group _ _ _ _ c.requires.0 _ c.loop-c.c _ (omega arith) c.loop-c.invariant
