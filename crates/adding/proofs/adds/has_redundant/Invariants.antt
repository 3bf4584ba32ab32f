-- All nodes up to j are data nodes or in the set. Assumes nothing.
use Prim.Native.Nat.{◌-◌}
use Rattle.code.specs.View.{node_set_of}
use Rattle.adding.proofs.Completing.{Had}
use Rattle.adding.proofs.adds.has_redundant.Given as goal

abbrev pub invariant-loop-j : goal.invariant-loop-j
invariant-loop-j l = Had l.initial.j (node_set_of l.done) l.j l.n

abbrev pub decreases-loop-j : goal.decreases-loop-j
decreases-loop-j l = l.n - l.j
