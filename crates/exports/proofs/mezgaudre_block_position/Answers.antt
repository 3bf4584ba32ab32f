-- `exports::mezgaudre_block_position` meets its contract. Assumes nothing.
use mathlib.Core.Path.{ap}
use Rattle.exports.proofs.mezgaudre_block_position.Goals as goal

pub returns : goal.returns
returns c = ap (λ home. home.position) c.block_home.ensures
