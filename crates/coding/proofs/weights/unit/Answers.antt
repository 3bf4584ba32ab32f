-- `coding::weights::unit` meets its contract. Assumes nothing.
use native.Mathlib.Omega.{arith}
use Rattle.coding.proofs.Restored.{unit-is}
use Rattle.coding.proofs.weights.unit.Goals as goal

pub returns : goal.returns
returns c = λ i. unit-is c.args.q i (omega arith)
