-- `blocks::copy_block` meets its contract: the part comes back as `set_part` puts it. Assumes nothing.
use native.Mathlib.Nat.{add-sub_cancel_left}
use Rattle.blocks.specs.Blocks.{set_part}
use Rattle.blocks.proofs.copy_block.Goals as goal

pub returns : goal.returns
unfolding set_part
returns c = simp (add-sub_cancel_left, c.copy.ensures)
