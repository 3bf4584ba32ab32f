-- out has the recent ids of the entries so far. Assumes nothing.
use Rattle.std.proofs.Common.{◌≡◌, map, take}
use Rattle.machine.specs.Rebuild.{recent_ids}
use Rattle.entries.specs.View.{entry_of}
use Rattle.stripe.specs.View.{nodes_of}
use Rattle.entries.specs.View.{ids_of}
use Rattle.stripe.proofs.nodes.Nodes.recent_ids.Given as goal

abbrev pub invariant-loop-e : goal.invariant-loop-e
invariant-loop-e l = ids_of l.out ≡ recent_ids (nodes_of l.n l.self) (map entry_of (take l.e-index l.e-items))
