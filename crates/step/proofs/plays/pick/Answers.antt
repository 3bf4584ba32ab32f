-- All nodes and the client taken out, the pick made, and put back if it changed anything. Assumes nothing.
use mathlib.Core.Path.{sym, ◌∙◌}
use Rattle.records.proofs.Limits.{nodes-few}
use Rattle.limits.proofs.Limits.{clients-few}
use Rattle.step.proofs.Playing.{picks, pick_same, pick_put}
use Rattle.step.proofs.plays.pick.Goals as goal

pub get-client-requires : goal.get-client-requires
get-client-requires c = clients-few _ c.requires

pub returns-then-is_unchanged : goal.returns-then-is_unchanged
returns-then-is_unchanged c value differences = let a = c.args in
    pick_same a.z value a.stripe a.blocks.now a.spare.now differences c.pick-r.result.answer _
    (sym c.is_unchanged.ensures ∙ c.if-is_unchanged.true) a.c
    (picks a.z a.c a.stripe a.blocks.now a.spare.now differences _ c.get-client.result c.pick-r.result c.get-client.ensures c.pick-r.ensures)

pub put_picked-requires : goal.put_picked-requires
put_picked-requires c = (nodes-few _ c.requires, clients-few _ c.requires)

pub returns : goal.returns
returns c value differences = let a = c.args in
    pick_put a.z value a.stripe a.blocks.now a.spare.now differences c.pick-r.result.answer _
    (sym c.is_unchanged.ensures ∙ c.if-is_unchanged.false) c.put_picked.result c.put_picked.ensures.nodes c.put_picked.ensures.clients a.c
    (picks a.z a.c a.stripe a.blocks.now a.spare.now differences _ c.get-client.result c.pick-r.result c.get-client.ensures c.pick-r.ensures)
