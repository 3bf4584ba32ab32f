-- `code::coefficient` meets its contract. Assumes nothing.
use Rattle.code.specs.Code.{coefficient}
use Rattle.code.proofs.coefficient.Goals as goal

pub returns : goal.returns
unfolding coefficient
returns c = c.inverse.ensures
