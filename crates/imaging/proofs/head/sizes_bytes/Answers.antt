-- The bytes of the sizes. Assumes nothing.
use Rattle.imaging.proofs.head.sizes_bytes.Goals as goal

pub returns : goal.returns
returns c = rw c.word_bytes-b.ensures
