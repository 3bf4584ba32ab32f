-- best is the largest set with the redundant nodes so far. Assumes nothing.
use Rattle.std.proofs.Common.{◌≡◌, ◌-◌}
use Rattle.code.specs.View.{node_set_of}
use Rattle.machine.specs.Rebuild.{largest}
use Rattle.stripe.specs.View.{nodes_of}
use Rattle.stripe.proofs.nodes.Nodes.largest.Given as goal

abbrev pub invariant-loop-i : goal.invariant-loop-i
invariant-loop-i l = node_set_of l.best ≡ largest l.z (nodes_of l.z.n l.self) (l.i - l.z.k)
