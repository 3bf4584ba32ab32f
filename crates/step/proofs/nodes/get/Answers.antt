-- Item j - 1, if there is such a node. Assumes nothing.
use native.Mathlib.Omega.{arith}
use Rattle.records.specs.Node.{failed_node}
use Rattle.records.specs.View.{node_of}
use Rattle.stripe.specs.View.{blank_record}
use Rattle.stripe.proofs.NodeLists.{eighteen}
use Rattle.step.proofs.Items.{seen_at}
use Rattle.step.proofs.nodes.get.Goals as goal

pub returns : goal.returns
returns c = let a = c.args in
    seen_at node_of blank_record a.n a.nodes.items (omega (arith, c.requires, eighteen a.nodes _ c.well_formed.0)) a.j c.failed.result failed_node c.failed.ensures c.record_at.ensures
