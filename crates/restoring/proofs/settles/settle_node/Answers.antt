-- By the test of all nodes; the own one is then held, and is put back settled. Assumes nothing.
use mathlib.Core.Path.{◌≡◌, refl, sym, ap, ◌∙◌}
use mathlib.Core.Bool.{Bool, true, false, cond}
use mathlib.Core.List.{List, []}
use Prim.Native.Nat.{ℕ}
use lib.Dec.{eqb, leb}
use lib.ListN.{length}
use borrow.Author.Tests.{eqb-true, not-true, not-false}
use Rattle.basics.proofs.Tests.{and_left}
use Rattle.machine.specs.Stripe as Stripe
use Rattle.machine.specs.Stripe.{guard, node_at}
use Rattle.basics.specs.Lists.{every_of}
use Rattle.machine.specs.Rebuild.{settle, holding}
use Rattle.basics.proofs.Tests.{clash}
use Rattle.basics.proofs.Lists.{every-at}
use Rattle.records.specs.declared.Sizes.{Sizes}
use Rattle.records.specs.Node.{Node, failed_node, held_by, settled}
use Rattle.records.specs.View.{node_of}
use Rattle.records.proofs.Limits.{nodes-few}
use Rattle.calls.specs.declared.Answer.TheVariants.{Accepted, Rebuilt}
use Rattle.calls.specs.Answers.{answer_of, Left}
use Rattle.stripe.specs.declared.seen.Seen.{Seen}
use Rattle.stripe.specs.Seen.{Sees}
use Rattle.rebuild.proofs.Phases as Phases
use Rattle.rebuild.proofs.Phases.{settling, settling-epoch}
use Rattle.rebuild.proofs.Stepping.{steps-made, steps-as, steps-past, held-refused, own_in}
use Rattle.restoring.proofs.settles.settle_node.Goals as goal

said : (last : Bool) → answer_of (cond last Rebuilt Accepted) [] ≡ cond last Stripe.Rebuilt Stripe.Accepted
said true = refl
said false = refl

left : (same : Type 0) (last : Bool) → Left (cond last Rebuilt Accepted) same
left same true = _
left same false = _

-- where all are held, node j is
own_held : {z : Sizes} {c : ℕ} {nodes : List Node} {s : Seen} {j : ℕ} → Sees z c nodes s → s.within ≡ true → s.held ≡ true → Phases.Node z j
    → held_by c (node_at nodes j) ≡ true
own_held {z} {c} {nodes} {s} {j} sees within held node =
    let count = eqb-true (length nodes) z.n (and_left (eqb (length nodes) z.n) _ (sym sees.within ∙ within)) in
    every-at failed_node (held_by c) nodes (sym sees.held ∙ held) j node.least (rw count node.most)

pub returns-then-not-seen : goal.returns-then-not-seen
unfolding settle guard holding
returns-then-not-seen c nodes blocks spare t = let a = c.args in
    let lost : every_of (held_by a.c) nodes ≡ false = sym (t.sees c.requires.0.sizes).held ∙ not-true _ c.if-not-seen.true in
    steps-past t c.requires.0 (steps-as t (c.lost.ensures nodes blocks spare t) (rw (c.requires.1, lost)))

pub settle-step-requires : goal.settle-step-requires
settle-step-requires c = settling-epoch c.requires.0 c.requires.1

pub advance-requires : goal.advance-requires
advance-requires c = nodes-few _ c.requires.0.sizes

pub returns-in-Err : goal.returns-in-Err
returns-in-Err c nodes blocks spare t = let a = c.args in
    let sees = t.sees c.requires.0.sizes in
    let at : node_of a.node ≡ node_at nodes a.j = t.record_is ∙ ap (node_at nodes) (own_in a.client c.requires.1) in
    let own = own_held sees c.requires.0.nodes (not-false _ c.if-not-seen.false) (settling c.requires.0 c.requires.1) in
    clash own (sym (ap (held_by a.c) at) ∙ held-refused (held_by a.c (node_of a.node)) (sym c.settle-step.ensures.answered ∙ c.in-Err.is))

pub returns-in-Ok : goal.returns-in-Ok
unfolding settle guard holding
returns-in-Ok c nodes blocks spare t = let a = c.args in
    let n = a.z.n in
    let at : node_of a.node ≡ node_at nodes a.j = t.record_is ∙ ap (node_at nodes) (own_in a.client c.requires.1) in
    let all : every_of (held_by a.c) nodes ≡ true = sym (t.sees c.requires.0.sizes).held ∙ not-false _ c.if-not-seen.false in
    let answer = c.settle_answer.ensures in
    steps-past t c.requires.0
    (steps-made t c.answered.ensures ((rw c.in-Ok.is at c.settle-step.ensures.left) ∙ ap (settled a.e) at)
    (rw (answer, said (leb n a.j), c.advance.ensures, c.requires.1, all))
    (rw answer (left _ (leb n a.j))))
