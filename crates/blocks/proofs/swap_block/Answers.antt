-- `blocks::swap_block` meets its contract: the part comes back as `set_part` puts it. Assumes nothing.
use native.Mathlib.Nat.{add-sub_cancel_left}
use Rattle.blocks.specs.Blocks.{part, set_part}
use Rattle.blocks.proofs.swap_block.Goals as goal

pub returns : goal.returns
unfolding set_part part
returns c = let swapped = c.swap.ensures in
    record { block = simp (add-sub_cancel_left, swapped.block); difference = simp (swapped.difference, add-sub_cancel_left) }
