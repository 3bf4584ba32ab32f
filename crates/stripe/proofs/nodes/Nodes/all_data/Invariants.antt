-- set has those of nodes 1 to i that are NORM. Assumes nothing.
use Rattle.code.specs.View.{node_set_of}
use Rattle.records.specs.Node.{is_norm}
use Rattle.stripe.specs.View.{record_at}
use Rattle.stripe.proofs.PickedSets.{Marked}
use Rattle.stripe.proofs.nodes.Nodes.all_data.Given as goal

abbrev pub invariant-loop-i : goal.invariant-loop-i
invariant-loop-i l = Marked (λ p. is_norm (record_at l.self p).opmode) (node_set_of l.set) l.i l.fn.z.k
