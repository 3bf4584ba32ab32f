-- `volumescript::reader::start_step` meets its contract. Assumes nothing.
use mathlib.Core.Path.{refl, sym, ◌∙◌}
use Rattle.script.specs.Lines.{numeral}
use Rattle.volumescript.specs.Lines.{by_word, line_in}
use Rattle.volumescript.specs.Reading.{goes_on}
use Rattle.volumescript.proofs.Clips.{by-stripe, no-numeral}
use Rattle.volumescript.proofs.Reading.{at-space, at_other}
use Rattle.volumescript.proofs.reader.start_step.Goals as goal

pub returns-then-byte-eq-SPACE : goal.returns-then-byte-eq-SPACE
unfolding goes_on line_in by_word numeral
returns-then-byte-eq-SPACE c = λ value. at-space c.if-byte-eq-SPACE.true (λ p ps. refl)

pub returns-then-is_digit : goal.returns-then-is_digit
unfolding goes_on line_in
returns-then-is_digit c = λ value. at_other c.if-byte-eq-SPACE.false (λ p ps.
    rw (c.extended.ensures p) (sym (by-stripe _ _ p ps (sym c.is_digit.ensures ∙ c.if-is_digit.true))))

pub returns : goal.returns
unfolding goes_on line_in
returns c = λ value. at_other c.if-byte-eq-SPACE.false (λ p ps. rw (no-numeral _ p (sym c.is_digit.ensures ∙ c.if-is_digit.false)))
