-- By whether the call is one of every stripe. Assumes nothing.
use mathlib.Core.Path.{sym, ◌∙◌}
use Rattle.script.specs.Reading.{kept}
use Rattle.volumescript.proofs.reader.one.Goals as goal

pub returns-in_default : goal.returns-in_default
returns-in_default c = λ value. rw c.in_default.is

pub returns-then-is_of_each : goal.returns-then-is_of_each
returns-then-is_of_each c = λ value. rw (c.in-Some.is, sym (c.is_of_each.ensures (kept c.in-Some.field-0.count value)) ∙ c.if-is_of_each.true)

pub returns-else-is_of_each : goal.returns-else-is_of_each
returns-else-is_of_each c = λ value. rw (c.in-Some.is, sym (c.is_of_each.ensures (kept c.in-Some.field-0.count value)) ∙ c.if-is_of_each.false)
