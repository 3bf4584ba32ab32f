-- `code::nodes::NodeSet::members` meets its contract: after j turns r has the members among the first j nodes. Assumes nothing.
use mathlib.Core.Path.{◌≡◌}
use Prim.Native.Nat.{◌≤◌}
use lib.ListN.{length}
use Rattle.code.specs.View.{node_set_of}
use Rattle.code.proofs.Members.{upto, Lists}
use Rattle.code.proofs.nodes.NodeSet.members.Given as goal

abbrev pub invariant-loop-j : goal.invariant-loop-j
invariant-loop-j l = (l.n ≤ l.j) × (length l.r ≡ 18) × (l.n ≡ length (upto l.j (node_set_of l.self))) × Lists (upto l.j (node_set_of l.self)) l.r
