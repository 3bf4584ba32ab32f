-- By the step's answer. Assumes nothing.
use mathlib.Core.Path.{sym, ap, ◌∙◌}
use Rattle.machine.specs.Rebuild.{holding}
use Rattle.records.specs.Node.{held_by}
use Rattle.records.specs.View.{node_of}
use Rattle.rebuild.proofs.Stepping.{steps-made, steps-as, asked, held-accepted, held-refused}
use Rattle.rebuild.proofs.admission.go_on.Goals as goal

pub returns-in-Ok : goal.returns-in-Ok
unfolding holding
returns-in-Ok c after m nodes blocks spare t = let a = c.args in
    let left = (rw c.in-Ok.is at m.left) ∙ ap after t.record_is in
    steps-made t c.answered.ensures left
    (rw (c.advance.ensures, asked t (held_by a.c) (held-accepted (held_by a.c (node_of a.node)) (sym m.answered ∙ c.in-Ok.is))))
    _

pub returns-in-Err : goal.returns-in-Err
unfolding holding
returns-in-Err c after m nodes blocks spare t = let a = c.args in
    steps-as t (c.lost.ensures nodes blocks spare t)
    (rw (asked t (held_by a.c) (held-refused (held_by a.c (node_of a.node)) (sym m.answered ∙ c.in-Err.is))))
