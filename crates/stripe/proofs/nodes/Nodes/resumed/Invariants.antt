-- set has those of nodes 1 to i that an unfinished rebuild is resumed with. Assumes nothing.
use Prim.Native.Nat.{◌+◌}
use Rattle.code.specs.View.{node_set_of}
use Rattle.stripe.specs.Sets.{is_resumed}
use Rattle.stripe.specs.View.{nodes_of}
use Rattle.stripe.proofs.PickedSets.{Marked}
use Rattle.stripe.proofs.nodes.Nodes.resumed.Given as goal

abbrev pub invariant-loop-i : goal.invariant-loop-i
invariant-loop-i l = Marked (λ p. is_resumed (nodes_of l.n l.self) (p + 1)) (node_set_of l.set) l.i l.n
