-- `exports::mezgaudre_block_stripe` meets its contract. Assumes nothing.
use mathlib.Core.Path.{ap}
use Rattle.exports.proofs.mezgaudre_block_stripe.Goals as goal

pub returns : goal.returns
returns c = ap (λ home. home.stripe) c.block_home.ensures
