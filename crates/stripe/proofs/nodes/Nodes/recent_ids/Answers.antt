-- out has the recent ids of the entries so far. Assumes nothing.
use Rattle.std.proofs.Common.{◌≡◌, length, get_or, map, take, length-take, arith, rules, sym, ◌∙◌}
use Rattle.std.proofs.lemmas.List.{length-map, map_more, take_all}
use Rattle.entries.specs.View.{blank_id, entry_of, blank_entry}
use Rattle.stripe.specs.View.{nodes_of}
use Rattle.stripe.proofs.IdLists.{recent-keep, keep-start, keep-on, keep-off, keep-count}
use Rattle.entries.proofs.Lists.{list_of-take}
use Rattle.stripe.proofs.nodes.Nodes.recent_ids.Goals as goal
use Rattle.stripe.proofs.nodes.Nodes.recent_ids.Goals.{then-counts, else-counts}

pub loop-e-init : goal.loop-e-init
loop-e-init c = keep-start (recent-keep (nodes_of c.args.n c.args.self)) c.none-out.ensures

pub push-out-requires : goal.push-out-requires
push-out-requires c = let a = c.args in
    let l = take a.entries.count a.entries.items in
    let i = c.loop-e.e-index in
    (omega arith, omega (arith, keep-count (recent-keep (nodes_of a.n a.self)) c.loop-e.out c.loop-e.invariant, length-map (take i l) entry_of, length-take i l, length-take a.entries.count a.entries.items))

pub loop-e-preserved : goal.loop-e-preserved
loop-e-preserved c = let a = c.args in
    let l = take a.entries.count a.entries.items in
    let i = c.loop-e.e-index in
    let x = entry_of (get_or l i blank_entry) in
    let k = recent-keep (nodes_of a.n a.self) in
    rw (map_more entry_of l i blank_entry (omega arith)) (elim c.if-counts.branch [
      | then-counts w ↦ rw w.out-is (keep-on k (map entry_of (take i l)) x c.loop-e.invariant (sym c.counts.ensures ∙ w.if-counts.true) (rw w.id.ensures at w.push-out.ensures blank_id))
      | else-counts w ↦ rw w.out-is (keep-off k (map entry_of (take i l)) x c.loop-e.invariant (sym c.counts.ensures ∙ w.if-counts.false))
    ])

pub returns : goal.returns
returns c = let s = c.args.entries in
    let room : length s.items ≡ 16 = search rules in
    rw (list_of-take entry_of s.items blank_entry s.count (omega (arith, room))) (rw (take_all c.loop-e.e-index (take s.count s.items) (omega arith)) at c.loop-e.invariant)
