-- The bytes of two words. Assumes nothing.
use Rattle.imaging.proofs.head.pair_bytes.Goals as goal

pub returns : goal.returns
returns c = rw (c.word_bytes-l.ensures, c.word_bytes-a.ensures)
