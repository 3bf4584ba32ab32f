-- out has what is left of the entries so far. Assumes nothing.
use Rattle.std.proofs.Common.{◌≡◌, sym, ap, length, get_or, map, take, length-take, arith, rules, ◌∙◌}
use Rattle.std.proofs.lemmas.List.{length-map, map_more, take_all, append-nil}
use borrow.Author.Tests.{not-true, not-false}
use Rattle.entries.specs.Entries.{discard}
use Rattle.entries.specs.View.{entry_of, blank_entry, ids_of}
use Rattle.entries.proofs.Lists.{list_of-take, entries-count, entries-push, discard-last, discard-few}
use Rattle.entries.proofs.node_entries.Entries.discard.Goals as goal
use Rattle.entries.proofs.node_entries.Entries.discard.Goals.{then-is_kept, else-is_kept}

pub loop-e-init : goal.loop-e-init
unfolding discard
loop-e-init c = c.none-out.ensures

pub push-out-requires : goal.push-out-requires
push-out-requires c = let s = c.args.self in
    let l = take s.count s.items in
    let i = c.loop-e.e-index in
    (omega arith, omega (arith, entries-count c.loop-e.out, ap length c.loop-e.invariant, discard-few (ids_of c.args.ids) (map entry_of (take i l)), length-map (take i l) entry_of, length-take i l, length-take s.count s.items))

pub loop-e-preserved : goal.loop-e-preserved
loop-e-preserved c = let l = take c.args.self.count c.args.self.items in
    let i = c.loop-e.e-index in
    let ids = ids_of c.args.ids in
    let last = discard-last ids (map entry_of (take i l)) (entry_of (get_or l i blank_entry)) in
    rw (map_more entry_of l i blank_entry (omega arith), last, ← c.loop-e.invariant) (elim c.if-is_kept.branch [
      | then-is_kept w ↦ rw (w.out-is, not-true _ (sym c.is_kept.ensures ∙ w.if-is_kept.true)) (entries-push c.loop-e.out _ _ (w.push-out.ensures blank_entry))
      | else-is_kept w ↦ rw (w.out-is, not-false _ (sym c.is_kept.ensures ∙ w.if-is_kept.false)) (sym (append-nil _))
    ])

pub returns : goal.returns
returns c = let s = c.args.self in
    let room : length s.items ≡ 16 = search rules in
    rw (list_of-take entry_of s.items blank_entry s.count (omega (arith, room))) (rw (take_all c.loop-e.e-index (take s.count s.items) (omega arith)) at c.loop-e.invariant)
