-- largest is the largest epoch of the records so far. Assumes nothing.
use Rattle.std.proofs.Common.{◌≡◌, map, take}
use Rattle.machine.specs.Rebuild.{largest_epoch}
use Rattle.records.specs.View.{node_of}
use Rattle.stripe.proofs.nodes.Nodes.largest_epoch.Given as goal

abbrev pub invariant-loop-node : goal.invariant-loop-node
invariant-loop-node l = l.largest ≡ largest_epoch (map node_of (take l.node-index l.node-items))
