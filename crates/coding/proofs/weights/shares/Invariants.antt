-- `coding::weights::shares` meets its contract. Assumes nothing.
use Rattle.coding.proofs.Weighing.{Shared}
use Rattle.coding.proofs.weights.shares.Given as goal

abbrev pub invariant-loop-q : goal.invariant-loop-q
invariant-loop-q l = Shared l.nodes l.q l.r
