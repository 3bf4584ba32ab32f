-- Places from the first to i are changed. Assumes nothing.
use mathlib.Core.Path.{sym, ap, ◌∙◌}
use Prim.Native.Nat.{◌≤◌, ◌<◌}
use native.Mathlib.Omega.{arith}
use Rattle.records.specs.View.{node_of}
use Rattle.stripe.specs.Seen.{changed_at, first_of, end_of}
use Rattle.stripe.specs.View.{nodes_of}
use Rattle.stripe.proofs.Applied.{applied-is, range-order, range-end}
use Rattle.stripe.proofs.Changes.{node-there}
use Rattle.stripe.proofs.Loops.{store-start, store-next, store-on}
use Rattle.stripe.proofs.NodeLists.{eighteen, nodes-count}
use Rattle.stripe.proofs.nodes.Nodes.change.Goals as goal

pub loop-i-init : goal.loop-i-init
loop-i-init c = let a = c.args in
    let room = eighteen a.self _ c.well_formed.0 in
    rw c.first-i.ensures (store-start (range-order a.change a.n) (omega (arith, range-end a.change a.n)))

pub loop-i-preserved : goal.loop-i-preserved
loop-i-preserved c = store-on c.loop-i.invariant c.made.result (omega arith)
    (rw (store-next c.loop-i.invariant) at c.made.ensures)

pub returns : goal.returns
returns c = let a = c.args in
    let n = a.n in
    let e = nodes-count n a.self in
    applied-is a.change (nodes_of n a.self) (nodes_of n c.loop-i.self) (nodes-count n c.loop-i.self ∙ sym e)
    (λ p h f g.
    let i : p < n = omega arith in
    let l : p < end_of a.change n = rw e at g in
    node-there n c.loop-i.self p i
    ∙ c.loop-i.invariant.done p (rw e at f) (omega (arith, l, c.end-i-end.ensures.0))
    ∙ ap (changed_at a.change p) (sym (node-there n a.self p i)))
    (λ p h o.
    let i : p < n = omega arith in
    let q : first_of a.change n ≤ p → end_of a.change n ≤ p = rw e at o in
    node-there n c.loop-i.self p i
    ∙ ap node_of (c.loop-i.invariant.others p (λ f. omega (arith, q f, c.loop-i.invariant.to)))
    ∙ sym (node-there n a.self p i))
