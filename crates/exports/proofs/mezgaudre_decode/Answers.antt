-- `exports::mezgaudre_decode` meets its contract. Assumes nothing.
use Rattle.exports.proofs.mezgaudre_decode.Goals as goal

pub returns : goal.returns
returns c = rw (c.decode.ensures, c.answer_of.ensures)
