-- Items 0 to i are the recent ids of nodes 1 to i. Assumes nothing.
use Prim.Native.Nat.{suc}
use Rattle.machine.specs.Rebuild.{f}
use Rattle.stripe.specs.Sets.{blank_ids}
use Rattle.stripe.specs.View.{nodes_of}
use Rattle.entries.specs.View.{ids_of}
use Rattle.stripe.proofs.Loops.{Stored}
use Rattle.stripe.proofs.nodes.Nodes.recents.Given as goal

abbrev pub invariant-loop-i : goal.invariant-loop-i
invariant-loop-i l = Stored ids_of blank_ids (λ p. f (nodes_of l.n l.self) (suc p)) l.initial.items l.items 0 l.i l.n
