-- The tests, in order. Assumes nothing.
use mathlib.Core.Path.{refl, sym, ◌∙◌}
use native.Mathlib.Omega.{arith}
use Rattle.picking.specs.Picking.{pick_held, seen_whole}
use Rattle.rebuild.proofs.Limits.{sizes-known}
use Rattle.picking.proofs.Picking.{picks-refused, picks-made, picks-as, now-exhausted, now-lost, now-held}
use Rattle.picking.proofs.picks.pick_now.Goals as goal

pub largest_epoch-epoch-requires : goal.largest_epoch-epoch-requires
largest_epoch-epoch-requires c = (sizes-known c.args.z c.requires.0.sizes).nodes_most

pub returns-then-epoch-ge-EPOCHS : goal.returns-then-epoch-ge-EPOCHS
returns-then-epoch-ge-EPOCHS c = let a = c.args in
    picks-refused a.z a.nodes c.refused.ensures
    (now-exhausted a.z a.c (seen_whole a.z a.nodes a.client a.blocks.now a.spare.now) (omega (arith, c.largest_epoch-epoch.ensures, c.if-epoch-ge-EPOCHS.true)))

pub all_held_at_l1-requires : goal.all_held_at_l1-requires
all_held_at_l1-requires c = (sizes-known c.args.z c.requires.0.sizes).nodes_most

pub pick_held-requires : goal.pick_held-requires
pick_held-requires c = c.requires

pub returns-then-all_held_at_l1 : goal.returns-then-all_held_at_l1
returns-then-all_held_at_l1 c = let a = c.args in
    let w = seen_whole a.z a.nodes a.client a.blocks.now a.spare.now in
    picks-as a.z a.nodes {part = pick_held a.z c.largest_epoch-epoch.result.0 w} c.pick_held.ensures
    (rw c.largest_epoch-epoch.ensures
    (now-held a.z a.c w
    (omega (arith, c.largest_epoch-epoch.ensures, c.if-epoch-ge-EPOCHS.false)) (sym c.all_held_at_l1.ensures ∙ c.if-all_held_at_l1.true)))

pub returns-else-all_held_at_l1 : goal.returns-else-all_held_at_l1
returns-else-all_held_at_l1 c = let a = c.args in
    picks-made a.z a.nodes refl
    (rw (c.expire.ensures, c.end_rebuild.ensures)
    (now-lost a.z a.c (seen_whole a.z a.nodes a.client a.blocks.now a.spare.now)
    (omega (arith, c.largest_epoch-epoch.ensures, c.if-epoch-ge-EPOCHS.false)) (sym c.all_held_at_l1.ensures ∙ c.if-all_held_at_l1.false)))
    tt
