-- `script::reader::extended` meets its contract. Assumes nothing.
use mathlib.Core.Path.{sym, ◌∙◌}
use Rattle.script.specs.Reading.{number_from, clipped_from}
use Rattle.script.proofs.Clips.{no_digit}
use Rattle.script.proofs.reader.extended.Goals as goal

pub grown-requires : goal.grown-requires
grown-requires c = sym c.is_digit.ensures ∙ c.if-is_digit.true

pub grown-requires-in-Digits : goal.grown-requires-in-Digits
grown-requires-in-Digits c = sym c.is_digit.ensures ∙ c.if-is_digit.true

pub returns-in-Empty : goal.returns-in-Empty
unfolding number_from clipped_from
returns-in-Empty c = λ l. rw (c.in-Empty.is, c.grown.ensures, sym c.is_digit.ensures ∙ c.if-is_digit.true)

pub returns-in-Digits : goal.returns-in-Digits
unfolding number_from clipped_from
returns-in-Digits c = λ l. rw (c.in-Digits.is, c.grown-in-Digits.ensures, sym c.is_digit.ensures ∙ c.if-is_digit.true)

pub returns-in-Bad : goal.returns-in-Bad
unfolding number_from
returns-in-Bad c = λ l. rw c.in-Bad.is

pub returns-else-is_digit : goal.returns-else-is_digit
unfolding number_from
returns-else-is_digit c = λ l. sym (no_digit c.args.number c.args.byte l (sym c.is_digit.ensures ∙ c.if-is_digit.false))
