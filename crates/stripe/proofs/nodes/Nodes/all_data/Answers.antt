-- set has those of nodes 1 to i that are NORM. Assumes nothing.
use mathlib.Core.Path.{ap, sym}
use mathlib.Core.Bool.{◌&&◌}
use Prim.Native.Nat.{suc}
use native.Mathlib.Omega.{arith}
use lib.Dec.{leb}
use borrow.Author.Tests.{le-leb, lt-leb}
use Rattle.machine.specs.Stripe.{node_at}
use Rattle.records.specs.Node.{is_norm}
use Rattle.stripe.specs.View.{nodes_of}
use Rattle.stripe.proofs.NodeLists.{node-item}
use Rattle.stripe.proofs.PickedSets.{mark-start, mark_on, mark-end}
use Rattle.stripe.proofs.nodes.Nodes.all_data.Goals as goal

pub loop-i-init : goal.loop-i-init
loop-i-init c = mark-start c.none-set.ensures

pub loop-i-preserved : goal.loop-i-preserved
loop-i-preserved c = mark_on c.loop-i.invariant (omega arith) c.put-set.ensures c.is_norm.ensures

pub returns : goal.returns
returns c = let a = c.args in
    let k = a.z.k in
    let n = a.z.n in
    mark-end c.loop-i.invariant (λ j. leb j k && is_norm (node_at (nodes_of n a.self) j).opmode) (omega arith)
    (λ i h. rw (le-leb (suc i) k h) (ap (λ y. is_norm y.opmode) (sym (node-item n a.self i (omega arith)))))
    (λ j h. rw (lt-leb j k h))
