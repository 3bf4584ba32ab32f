-- The size of the set; with enough members its rows have an inverse. Assumes nothing.
use mathlib.Core.Path.{◌≡◌, refl, ap, ◌∙◌}
use Prim.Native.Nat.{◌≤◌}
use native.Mathlib.Omega.{arith}
use Rattle.code.specs.View.{node_set_of}
use Rattle.code.specs.Decode.{size}
use Rattle.machine.specs.Rebuild.{picked_set}
use Rattle.machine.proofs.CodeLaws.{sizes}
use Rattle.stripe.specs.View.{nodes_of}
use Rattle.stripe.proofs.NodeLists.{nodes-count, within-counted}
use Rattle.picking.specs.Picking.{seen_whole}
use Rattle.rebuild.proofs.Limits.{sizes-known}
use Rattle.picking.proofs.PickedSets.{picked-held, needed-least}
use Rattle.picking.proofs.Picking.{picks-refused, picks-made, held-few, held-enough}
use Rattle.picking.proofs.picks.pick_held.Goals as goal

pub picked_set-set-requires : goal.picked_set-set-requires
picked_set-set-requires c = let a = c.args in
    let known = sizes-known a.z c.requires.0.sizes in
    (known.data_few, (known.nodes_most, within-counted a.z a.z.n a.nodes c.requires.0.nodes))

pub needed_size-requires : goal.needed_size-requires
needed_size-requires c = let known = sizes-known c.args.z c.requires.0.sizes in
    (known.nodes_most, known.planned)

pub returns-then-size-needed_size : goal.returns-then-size-needed_size
returns-then-size-needed_size c = let a = c.args in
    let w = seen_whole a.z a.nodes a.client a.blocks.now a.spare.now in
    let many : c.size-size.result ≡ size (picked_set a.z w.nodes) = c.size-size.ensures.0 ∙ ap size c.picked_set-set.ensures in
    let few = held-few a.z a.epoch.0 w (omega (arith, c.needed_size.ensures, c.if-size-needed_size.true)) in
    picks-refused a.z a.nodes c.refused.ensures (rw (← few, ← many))

pub recover_table-requires : goal.recover_table-requires
recover_table-requires c = let a = c.args in
    let code = sizes a.z c.requires.0.sizes in
    let few : a.z.n ≤ 18 = omega (arith, code.data_most, code.redundant_most) in
    let nodes = nodes_of a.z.n a.nodes in
    let enough : a.z.k ≤ size (node_set_of c.picked_set-set.result) = omega (arith, c.size-size.ensures.0, c.needed_size.ensures, c.if-size-needed_size.false, needed-least a.z nodes) in
    (code.data_most, enough, omega (arith, few), code.block_most, c.requires.1.room, rw c.picked_set-set.ensures (picked-held a.z nodes (nodes-count a.z.n a.nodes) few a.blocks.now c.requires.1.full))

pub returns : goal.returns
returns c = let a = c.args in
    let w = seen_whole a.z a.nodes a.client a.blocks.now a.spare.now in
    let many : c.size-size.result ≡ size (picked_set a.z w.nodes) = c.size-size.ensures.0 ∙ ap size c.picked_set-set.ensures in
    let known = sizes-known a.z c.requires.0.sizes in
    picks-made a.z a.nodes refl
    (rw (c.keep.ensures, c.pick.ensures, c.recover_table.ensures, c.picked_set-set.ensures)
    (held-enough a.z a.epoch.0 w (nodes-count a.z.n a.nodes) known.nodes_most known.data_few (omega (arith, many, c.needed_size.ensures, c.if-size-needed_size.false))))
    tt
