-- What is seen of the records so far. Assumes nothing.
use Rattle.std.proofs.Common.{◌≡◌, map, take}
use Rattle.records.specs.View.{node_of}
use Rattle.stripe.proofs.Seeing.{seen_of}
use Rattle.stripe.proofs.nodes.Nodes.see.Given as goal

abbrev pub invariant-loop-node : goal.invariant-loop-node
invariant-loop-node l = l.seen ≡ seen_of l.z l.c (map node_of (take l.node-index l.node-items))
