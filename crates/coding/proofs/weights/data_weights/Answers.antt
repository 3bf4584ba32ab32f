-- `coding::weights::data_weights` meets its contract. Assumes nothing.
use mathlib.Core.Path.{refl}
use native.Mathlib.Omega.{arith}
use Rattle.blocks.proofs.Entries.{begun-none, begun-turn}
use Rattle.coding.proofs.weights.data_weights.Goals as goal

pub loop-i-init : goal.loop-i-init
loop-i-init c = begun-none _ _ _ refl

pub data_weight-requires : goal.data_weight-requires
data_weight-requires c = (c.table-powers.ensures, c.table-logarithms.ensures, omega arith, omega arith, omega arith)

pub loop-i-preserved : goal.loop-i-preserved
loop-i-preserved c = begun-turn _ _ _ _ _ (omega arith) c.data_weight.ensures c.loop-i.invariant

pub returns : goal.returns
returns c = λ i l. c.loop-i.invariant.done i (omega arith)
