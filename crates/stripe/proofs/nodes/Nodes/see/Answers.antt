-- What is seen of the records so far. Assumes nothing.
use Rattle.std.proofs.Common.{sym, ap, arith, get_or, map, take, ◌∙◌}
use Rattle.std.proofs.lemmas.List.{map_more, take_all}
use Rattle.basics.proofs.Tests.{clash}
use borrow.Author.Tests.{not-true, not-false}
use Rattle.records.proofs.Limits.{nodes-few}
use Rattle.records.specs.View.{node_of}
use Rattle.stripe.specs.Seen.{seen_with}
use Rattle.stripe.specs.View.{blank_record, nodes_of}
use Rattle.stripe.proofs.NodeLists.{eighteen, nodes-map, nodes-count}
use Rattle.stripe.proofs.Seeing.{seen_of, seen_none_lem, seen_last, sees-all}
use Rattle.stripe.proofs.nodes.Nodes.see.Goals as goal

pub returns-then-not-within : goal.returns-then-not-within
returns-then-not-within c within = clash within (sym c.within.ensures ∙ not-true _ c.if-not-within.true-raw)

pub shared_ref_as_front-node-items : goal.shared_ref_as_front-node-items
shared_ref_as_front-node-items c = nodes-few c.args.z (sym c.within.ensures ∙ not-false _ c.if-not-within.false-raw)

pub loop-node-init : goal.loop-node-init
loop-node-init c = c.none-seen.ensures ∙ seen_none_lem c.args.z c.args.c

pub loop-node-preserved : goal.loop-node-preserved
loop-node-preserved c = let a = c.args in
    let l = take a.z.n a.self.items in
    let i = c.loop-node.node-index in
    let x = node_of (get_or l i blank_record) in
    c.with-seen.ensures
    ∙ ap (seen_with a.z a.c x) c.loop-node.invariant
    ∙ seen_last a.z a.c (map node_of (take i l)) x
    ∙ sym (ap (seen_of a.z a.c) (map_more node_of l i blank_record (omega arith)))

pub returns : goal.returns
returns c within = let a = c.args in
    let few = nodes-few a.z within in
    let l = take a.z.n a.self.items in
    sees-all a.z a.c (nodes_of a.z.n a.self) (nodes-count a.z.n a.self)
    (rw (nodes-map a.z.n a.self (omega (arith, few, eighteen a.self _ c.well_formed.0)))
    (rw (take_all c.loop-node.node-index l (omega arith)) at c.loop-node.invariant))
