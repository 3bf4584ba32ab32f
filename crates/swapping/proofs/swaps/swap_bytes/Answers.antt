-- The part of the client's difference comes back as `set_part` puts it. Assumes nothing.
use native.Mathlib.Nat.{add-sub_cancel_left}
use Rattle.blocks.specs.Blocks.{set_part}
use Rattle.swapping.proofs.swaps.swap_bytes.Goals as goal

pub returns : goal.returns
unfolding set_part
returns c = let swapped = c.swap_block.ensures in
    record { blocks = simp swapped.block; differences = simp (swapped.difference, add-sub_cancel_left) }
