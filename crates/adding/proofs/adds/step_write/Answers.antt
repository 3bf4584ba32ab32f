-- Refused where the write is done; then as the node answers. Assumes nothing.
use Rattle.std.specs.Prelude.{Ok, Err}
use mathlib.Core.Path.{◌≡◌, sym, ◌∙◌}
use mathlib.Core.Bool.{false}
use Rattle.code.specs.Decode.{has}
use Rattle.code.specs.View.{node_set_of}
use Rattle.records.specs.View.{node_of, write_of}
use Rattle.machine.specs.Writing.{completes}
use Rattle.calls.proofs.NodeAnswers.{stepped}
use Rattle.adding.proofs.Adding.{said, add_done, add-told}
use Rattle.calls.proofs.Stepping.{steps-refused, steps-made}
use Rattle.adding.proofs.adds.step_write.Goals as goal
use Rattle.adding.proofs.adds.step_write.Goals.{Else-contains}

todo : (c : Else-contains) → let a = c.args in has (node_set_of a.write.done) a.j ≡ false
todo c = sym c.contains.ensures ∙ c.if-contains.false

pub returns-then-contains : goal.returns-then-contains
returns-then-contains c client blocks differences = let a = c.args in
    steps-refused (rw c.requires.0 (add_done a.j a.write (node_of a.node) (sym c.contains.ensures ∙ c.if-contains.true))) c.refused.ensures

pub returns-in-Err : goal.returns-in-Err
returns-in-Err c client blocks differences = let a = c.args in
    let told = sym c.in-Err.is ∙ c.add-step.ensures.answered in
    steps-refused (rw c.requires.0 (add-told a.j a.write (node_of a.node) (todo (goal.at.returns-in-Err c).Else-contains) (Err _) told)) c.refused-in-Err.ensures

pub returns : goal.returns
returns c client blocks differences = let a = c.args in
    let took = c.in_default.is in
    steps-made (rw c.requires.0 (add-told a.j a.write (node_of a.node) (todo (goal.at.returns c).Else-contains) (Ok tt) (sym took ∙ c.add-step.ensures.answered)))
    (rw (c.requires.0, c.join-joined.ensures.answer) (said (completes a.z a.j (write_of a.write))))
    (rw c.requires.0 (stepped c.add-step.ensures took))
    (rw c.requires.0 c.join-joined.ensures.client)
