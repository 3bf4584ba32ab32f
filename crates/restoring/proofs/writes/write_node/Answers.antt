-- As the node answers; its block then comes from the spare. Assumes nothing.
use mathlib.Core.Path.{◌≡◌, sym, ap, ◌∙◌}
use mathlib.Core.Bool.{true, false}
use mathlib.Core.List.{List}
use Prim.Native.Nat.{ℕ}
use native.Mathlib.Omega.{arith}
use Rattle.blocks.proofs.Parts.{block-fits}
use Rattle.code.specs.View.{node_set_of}
use Rattle.machine.specs.Stripe.{Outcome, Whole, Accepted, answered, guard, node_at}
use Rattle.machine.specs.Rebuild.{writes, out_of, own_node, holding, spare_written, write}
use Rattle.records.specs.declared.Sizes.{Sizes}
use Rattle.records.specs.declared.Refusal.TheVariants.{OutOfPhase}
use Rattle.records.specs.Node.{Node, held_by, written}
use Rattle.records.specs.View.{node_of, client_of}
use Rattle.calls.specs.Answers.{whole}
use Rattle.rebuild.specs.Promises.{Told}
use Rattle.rebuild.proofs.Phases.{writing}
use Rattle.rebuild.proofs.Stepping.{steps-made, steps-as, held-accepted, held-refused, own_in}
use Rattle.rebuild.proofs.Tabled.{tabled-past}
use Rattle.restoring.proofs.writes.write_node.Goals as goal
use Rattle.restoring.proofs.writes.write_node.Goals.{Start}

-- what is left of the call past its tests
abbrev rest : Sizes → ℕ → Whole → Outcome Whole
rest z c w = guard (out_of writes w) OutOfPhase w (holding (held_by c (own_node w)) c w (answered Accepted (spare_written z w)))

abbrev lent : Start → List Node → Whole
lent c nodes = let a = c.args in whole nodes (client_of a.client) a.blocks.now a.spare.now

past : (c : Start) (nodes : List Node) →
    let a = c.args in
    Told a.z a.c nodes a.seen a.node a.client → rest a.z a.c (lent c nodes) ≡ write a.z a.c (lent c nodes)
unfolding write
past c nodes t =
    let a = c.args in
    tabled-past a.z a.c a.seen a.client a.blocks.now a.spare.now t.sees c.requires.0 c.requires.2 (rest a.z a.c (lent c nodes))

pub copy_spare-requires : goal.copy_spare-requires
copy_spare-requires c = let a = c.args in
    let n = writing c.requires.0 c.requires.1 in
    let fits = block-fits a.j a.z.n a.z.b n.least n.most in
    (n.least, omega (arith, c.requires.2.full, fits), omega (arith, c.requires.2.room, fits))

pub advance-requires : goal.advance-requires
advance-requires c = (writing c.requires.0 c.requires.1).few

pub returns-in-Err : goal.returns-in-Err
unfolding guard holding
returns-in-Err c nodes t = let a = c.args in
    let at : node_of a.node ≡ node_at nodes a.j = t.record_is ∙ ap (node_at nodes) (own_in a.client c.requires.1) in
    let lost : held_by a.c (node_at nodes a.j) ≡ false =
    sym (ap (held_by a.c) at) ∙ held-refused (held_by a.c (node_of a.node)) (sym c.write-step.ensures.answered ∙ c.in-Err.is) in
    steps-as t {part = rest a.z a.c (lent (goal.at.returns-in-Err c).Start nodes)}
    (steps-as t (c.lost.ensures nodes a.blocks.now a.spare.now t) (rw (c.requires.1, lost))) (past (goal.at.returns-in-Err c).Start nodes t)

pub returns-in-Ok : goal.returns-in-Ok
unfolding guard holding
returns-in-Ok c nodes t = let a = c.args in
    let at : node_of a.node ≡ node_at nodes a.j = t.record_is ∙ ap (node_at nodes) (own_in a.client c.requires.1) in
    let held : held_by a.c (node_at nodes a.j) ≡ true =
    sym (ap (held_by a.c) at) ∙ held-accepted (held_by a.c (node_of a.node)) (sym c.write-step.ensures.answered ∙ c.in-Ok.is) in
    steps-as t {part = rest a.z a.c (lent (goal.at.returns-in-Ok c).Start nodes)}
    (steps-made t c.answered.ensures ((rw c.in-Ok.is at c.write-step.ensures.left) ∙ ap (written a.e (node_set_of a.set)) at)
    (rw (c.advance.ensures, c.copy_spare.ensures, c.requires.1, held))
    _)
    (past (goal.at.returns-in-Ok c).Start nodes t)
