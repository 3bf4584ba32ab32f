-- set has those of nodes 1 to i that fit beside the redundant member. Assumes nothing.
use mathlib.Core.Bool.{◌&&◌}
use Prim.Native.Nat.{◌-◌}
use native.Mathlib.Omega.{arith}
use Rattle.machine.specs.Stripe.{node_at}
use Rattle.machine.specs.Rebuild.{fits}
use Rattle.records.specs.Node.{is_norm}
use Rattle.stripe.specs.View.{nodes_of}
use Rattle.stripe.proofs.NodeLists.{node-past}
use Rattle.stripe.proofs.PickedSets.{mark-start, mark_on, mark-end, known-few, beside-is}
use Rattle.stripe.proofs.nodes.Nodes.besides.Goals as goal

pub loop-i-init : goal.loop-i-init
loop-i-init c = mark-start c.none-set.ensures

pub is_beside-beside-requires : goal.is_beside-beside-requires
is_beside-beside-requires c = let few = known-few c.requires.1.1 in
    (few c.loop-i.i (omega arith), few (c.args.r - 1) (omega arith))

pub loop-i-preserved : goal.loop-i-preserved
loop-i-preserved c = mark_on c.loop-i.invariant (omega arith) c.put-set.ensures c.is_beside-beside.ensures

pub returns : goal.returns
returns c = let n = c.args.z.n in
    let nodes = nodes_of n c.args.self in
    mark-end c.loop-i.invariant (λ j. is_norm (node_at nodes j).opmode && fits c.args.z nodes c.args.r j) (omega arith)
    (λ i h. beside-is c.requires.1.1 c.args.z c.args.r i (omega arith) (omega arith) h)
    (λ j h. rw (node-past n c.args.self j h))
