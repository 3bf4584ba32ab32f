-- set has those of nodes 1 to i that fit beside the redundant member. Assumes nothing.
use mathlib.Core.Bool.{◌&&◌}
use Prim.Native.Nat.{◌+◌}
use Rattle.code.specs.View.{node_set_of}
use Rattle.records.specs.Node.{is_norm}
use Rattle.stripe.specs.Sets.{fits_beside, ids_at}
use Rattle.stripe.specs.View.{record_at}
use Rattle.entries.specs.View.{ids_of}
use Rattle.stripe.proofs.PickedSets.{Marked}
use Rattle.stripe.proofs.nodes.Nodes.besides.Given as goal

abbrev pub invariant-loop-i : goal.invariant-loop-i
invariant-loop-i l = Marked
    (λ p. is_norm (record_at l.self p).opmode && fits_beside l.z.k (p + 1) (ids_of (ids_at l.recents p)) (ids_of l.theirs))
    (node_set_of l.set) l.i l.z.n
