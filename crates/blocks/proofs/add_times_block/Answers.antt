-- `blocks::add_times_block` meets its contract: the part comes back as `set_part` puts it. Assumes nothing.
use native.Mathlib.Nat.{add-sub_cancel_left}
use Rattle.blocks.specs.Blocks.{part, set_part}
use Rattle.blocks.proofs.add_times_block.Goals as goal

pub returns : goal.returns
unfolding set_part part
returns c = simp (c.add_times.ensures, add-sub_cancel_left)
