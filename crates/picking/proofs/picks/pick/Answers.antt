-- The tests, in order; then the pick in its phase. Assumes nothing.
use mathlib.Core.Path.{sym, ◌∙◌}
use Rattle.machine.specs.Rebuild.{pick, pick_now}
use Rattle.picking.specs.Picking.{seen_whole}
use Rattle.rebuild.proofs.Tabled.{tabled-admitted, tabled-tables, tabled-failed, tabled-passed}
use Rattle.rebuild.proofs.Phases.{picks-in, picks-out}
use Rattle.picking.proofs.Picking.{picks-refused, picks-as, pick-admitted}
use Rattle.picking.proofs.picks.pick.Goals as goal

pub pick_now-requires : goal.pick_now-requires
pick_now-requires c = let a = c.before.args in
    let s = c.see-seen.result in
    let e = c.tabled_entrance.ensures in
    let on = c.in-Ok.is in
    (pick-admitted a.nodes c.see-seen.ensures (tabled-admitted a.z a.c s a.client a.blocks.now a.spare.now e on), tabled-tables a.z a.c s a.client a.blocks.now a.spare.now e on)

pub returns-in-Err : goal.returns-in-Err
unfolding pick
returns-in-Err c = let a = c.before.args in
    picks-refused a.z a.nodes c.refused.ensures
    (tabled-failed a.z a.c c.see-seen.result a.client a.blocks.now a.spare.now c.tabled_entrance.ensures c.see-seen.ensures _
    c.in-Err.is)

pub returns-then-is_picking : goal.returns-then-is_picking
unfolding pick
returns-then-is_picking c = let a = c.before.args in
    let w = seen_whole a.z a.nodes a.client a.blocks.now a.spare.now in
    picks-as a.z a.nodes {part = pick_now a.z a.c w} c.pick_now.ensures
    (picks-in w (sym c.is_picking.ensures ∙ c.if-is_picking.true) (pick_now a.z a.c w)
    ∙ tabled-passed a.z a.c c.see-seen.result a.client a.blocks.now a.spare.now c.tabled_entrance.ensures c.see-seen.ensures _
    c.in-Ok.is)

pub returns-else-is_picking : goal.returns-else-is_picking
unfolding pick
returns-else-is_picking c = let a = c.before.args in
    let w = seen_whole a.z a.nodes a.client a.blocks.now a.spare.now in
    picks-refused a.z a.nodes c.refused-else-is_picking.ensures
    (picks-out w (pick_now a.z a.c w) (sym c.is_picking.ensures ∙ c.if-is_picking.false)
    ∙ tabled-passed a.z a.c c.see-seen.result a.client a.blocks.now a.spare.now c.tabled_entrance.ensures c.see-seen.ensures _
    c.in-Ok.is)
