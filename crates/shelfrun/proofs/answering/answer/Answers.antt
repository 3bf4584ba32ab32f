-- By cases of the line. Assumes nothing.
use mathlib.Core.Path.{refl}
use Rattle.shelfrun.proofs.Turns.{same-value}
use Rattle.shelfrun.proofs.answering.answer.Goals as goal

pub returns-in-None : goal.returns-in-None
returns-in-None c = rw c.in-None.is record { text = c.put_answer-end.ensures; left = refl }

pub returns-in-Some : goal.returns-in-Some
returns-in-Some c = rw c.in-Some.is (same-value c.in-Some.field-0.call _ _ c.counted-n.ensures.value_value c.answer_call.ensures)
