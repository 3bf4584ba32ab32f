-- By the block's home. Assumes nothing.
use Rattle.volumescript.proofs.asking.read_block_of.Goals as goal

pub returns : goal.returns
returns c = rw c.home_of-home.ensures
