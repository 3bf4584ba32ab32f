-- `coding::weights::over` meets its contract. Assumes nothing.
use native.Mathlib.Omega.{arith}
use Rattle.coding.proofs.Weighing.{power-over}
use Rattle.coding.proofs.weights.over.Goals as goal

pub returns : goal.returns
returns c = (power-over c.args.a c.args.b (omega arith), omega arith)
