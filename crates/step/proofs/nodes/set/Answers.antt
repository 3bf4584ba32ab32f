-- A store at the node's place, if there is such a node. Assumes nothing.
use mathlib.Core.Path.{sym}
use native.Mathlib.Omega.{arith}
use Rattle.records.specs.View.{node_of}
use Rattle.stripe.specs.View.{nodes_of}
use Rattle.stripe.proofs.NodeLists.{nodes-count}
use Rattle.step.proofs.Items.{set-none, set_past}
use Rattle.step.proofs.nodes.set.Goals as goal

pub returns-then-j-lt1 : goal.returns-then-j-lt1
returns-then-j-lt1 c = let args = c.args in sym (set-none (nodes_of args.n args.nodes) args.j (node_of args.node) c.if-j-lt1.true)

pub returns-then-n-j : goal.returns-then-n-j
returns-then-n-j c = let args = c.args in
    sym (set_past (nodes_of args.n args.nodes) args.j (node_of args.node) (omega (arith, nodes-count args.n args.nodes)))

pub set-requires : goal.set-requires
set-requires c = (omega arith, omega arith)

pub returns : goal.returns
returns c = c.set.ensures c.args.n
