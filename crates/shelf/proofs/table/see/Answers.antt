-- Of no node, of one node more, and of all.
use Rattle.std.proofs.Common.{arith}
use Rattle.shelf.proofs.Looked.{none-looked, more-looked, all-looked}
use Rattle.shelf.proofs.table.see.Goals as goal

pub loop-node-init : goal.loop-node-init
loop-node-init c = none-looked c.args.z c.args.c c.args.nodes.now c.none-seen.ensures

pub loop-node-preserved : goal.loop-node-preserved
loop-node-preserved c = more-looked c.args.z c.args.c c.args.nodes.now c.loop-node.node-index _ (omega arith) c.loop-node.invariant c.with-seen.ensures

pub returns : goal.returns
returns c = all-looked c.args.z c.args.c c.args.nodes.now c.loop-node.node-index (omega arith) c.loop-node.invariant
