-- `coding::weights::data_weights` meets its contract. Assumes nothing.
use Prim.Native.Nat.{◌+◌, ◌/◌, ◌%◌}
use Rattle.coding.specs.Weights.{data_weight}
use Rattle.blocks.proofs.Entries.{Begun}
use Rattle.coding.proofs.weights.data_weights.Given as goal

abbrev pub invariant-loop-i : goal.invariant-loop-i
invariant-loop-i l = Begun 72 (λ w. data_weight l.k (l.k + w / 12 + 1) (w % 12)) l.i l.r
