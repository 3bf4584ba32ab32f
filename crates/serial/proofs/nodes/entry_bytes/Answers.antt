-- The id's bytes, the mark's and the age. Assumes nothing.
use Rattle.serial.proofs.nodes.entry_bytes.Goals as goal

pub returns : goal.returns
returns c = rw (c.mark_byte.ensures, c.word_bytes-n.ensures)
