-- out has the ids of the position so far. Assumes nothing.
use Rattle.std.proofs.Common.{◌≡◌, length, get_or, take, length-take, arith, rules}
use Rattle.std.proofs.lemmas.List.{take_more, take_all}
use borrow.Author.Tests.{eq-eqb, ne_eqb}
use Rattle.entries.specs.View.{blank_id}
use Rattle.entries.proofs.Lists.{few-take}
use Rattle.stripe.proofs.IdLists.{position-keep, keep-start, keep-on, keep-off, keep-count}
use Rattle.stripe.proofs.sets.at_position.Goals as goal
use Rattle.stripe.proofs.sets.at_position.Goals.{then-id-i, else-id-i}

pub loop-id-init : goal.loop-id-init
loop-id-init c = keep-start (position-keep c.args.i) c.none-out.ensures

pub push-out-requires : goal.push-out-requires
push-out-requires c = let l = take c.args.ids.count c.args.ids.items in
    let i = c.loop-id.id-index in
    (omega arith, omega (arith, keep-count (position-keep c.args.i) c.loop-id.out c.loop-id.invariant, length-take i l, length-take c.args.ids.count c.args.ids.items))

pub loop-id-preserved : goal.loop-id-preserved
loop-id-preserved c = let l = take c.args.ids.count c.args.ids.items in
    let i = c.loop-id.id-index in
    let x = get_or l i blank_id in
    rw (take_more l i blank_id (omega arith)) (elim c.if-id-i.branch [
      | then-id-i w ↦ rw w.out-is (keep-on (position-keep c.args.i) (take i l) x c.loop-id.invariant (eq-eqb _ _ w.if-id-i.true) (w.push-out.ensures blank_id))
      | else-id-i w ↦ rw w.out-is (keep-off (position-keep c.args.i) (take i l) x c.loop-id.invariant (ne_eqb _ _ w.if-id-i.false))
    ])

pub returns : goal.returns
returns c = let s = c.args.ids in
    let room : length s.items ≡ 16 = search rules in
    rw (few-take s blank_id (omega (arith, room))) (rw (take_all c.loop-id.id-index (take s.count s.items) (omega arith)) at c.loop-id.invariant)
