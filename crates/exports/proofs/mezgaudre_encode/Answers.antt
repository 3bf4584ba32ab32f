-- `exports::mezgaudre_encode` meets its contract. Assumes nothing.
use Rattle.exports.proofs.mezgaudre_encode.Goals as goal

pub returns : goal.returns
returns c = rw (c.encode.ensures, c.answer_of.ensures)
