-- The last recent id is the previous one, and the write's number is used. Assumes nothing.
use Rattle.swapping.proofs.swaps.begin.Goals as goal

pub returns : goal.returns
returns c = rw (c.begin.ensures, c.new.ensures, c.last_recent-previous.ensures)
