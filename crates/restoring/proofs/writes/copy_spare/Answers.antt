-- The part of the spare is its block. Assumes nothing.
use native.Mathlib.Nat.{add-sub_cancel_left}
use Rattle.blocks.specs.Blocks.{part}
use Rattle.restoring.proofs.writes.copy_spare.Goals as goal

pub returns : goal.returns
unfolding part
returns c = simp (c.copy_block.ensures, add-sub_cancel_left)
