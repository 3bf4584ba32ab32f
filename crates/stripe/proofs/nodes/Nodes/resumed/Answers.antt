-- set has those of nodes 1 to i that an unfinished rebuild is resumed with. Assumes nothing.
use native.Mathlib.Numerals.{add-one}
use native.Mathlib.Omega.{arith}
use Rattle.stripe.specs.Sets.{is_resumed}
use Rattle.stripe.specs.View.{nodes_of}
use Rattle.stripe.proofs.NodeLists.{node-past}
use Rattle.stripe.proofs.PickedSets.{mark-start, mark_on, mark-end}
use Rattle.stripe.proofs.nodes.Nodes.resumed.Goals as goal

pub loop-i-init : goal.loop-i-init
loop-i-init c = mark-start c.none-set.ensures

pub loop-i-preserved : goal.loop-i-preserved
loop-i-preserved c = mark_on c.loop-i.invariant (omega arith) c.put-set.ensures c.is_resumed.ensures

pub returns : goal.returns
returns c = let a = c.args in
    mark-end c.loop-i.invariant (is_resumed (nodes_of a.n a.self)) (omega arith)
    (λ i h. rw (add-one i))
    (λ j h. rw (node-past a.n a.self j h))
