-- The number's bytes are those of a word. Assumes nothing.
use Rattle.serial.proofs.ids.id_bytes.Goals as goal

pub returns : goal.returns
returns c = rw c.word_bytes-n.ensures
