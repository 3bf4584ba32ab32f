-- largest is the largest epoch of the records so far. Assumes nothing.
use Rattle.std.proofs.Common.{refl, arith, take}
use Rattle.std.proofs.lemmas.List.{map_more, take_all}
use Rattle.machine.specs.Rebuild.{largest_epoch}
use Rattle.records.specs.View.{node_of}
use Rattle.stripe.specs.View.{blank_record}
use Rattle.stripe.proofs.NodeLists.{eighteen, nodes-map, epoch-last}
use Rattle.stripe.proofs.nodes.Nodes.largest_epoch.Goals as goal

pub loop-node-init : goal.loop-node-init
unfolding largest_epoch
loop-node-init c = refl

pub loop-node-preserved : goal.loop-node-preserved
loop-node-preserved c = let a = c.args in
    rw (map_more node_of (take a.n a.self.items) c.loop-node.node-index blank_record (omega arith), epoch-last, ← c.loop-node.invariant) c.max-largest.ensures

pub returns : goal.returns
returns c = let a = c.args in
    rw (nodes-map a.n a.self (omega (arith, eighteen a.self _ c.well_formed.0)))
    (rw (take_all c.loop-node.node-index (take a.n a.self.items) (omega arith)) at c.loop-node.invariant)
