-- The bytes of two words. Assumes nothing.
use Rattle.serial.proofs.clients.phase_bytes.Goals as goal

pub returns : goal.returns
returns c = rw (c.word_bytes-e.ensures, c.word_bytes-s.ensures)
