-- `script::reader::second_step` meets its contract. Assumes nothing.
use mathlib.Core.Path.{refl, sym}
use borrow.Author.Tests.{ne_eqb}
use Rattle.script.specs.Reading.{goes_on, after_second, number_from, clipped_from, bytes_from}
use Rattle.script.proofs.Reading.{at-space, at_other}
use Rattle.script.proofs.Clips.{either, last_none, no_second}
use Rattle.script.proofs.reader.second_step.Goals as goal

pub returns-then-byte-ne-SPACE : goal.returns-then-byte-ne-SPACE
unfolding goes_on
returns-then-byte-ne-SPACE c = λ value. at_other refl c.if-byte-ne-SPACE.true (λ p ps. rw (c.extended.ensures p))

pub returns-then-letter-eq83 : goal.returns-then-letter-eq83
unfolding goes_on after_second number_from clipped_from bytes_from
returns-then-letter-eq83 c = λ value. at-space refl c.if-byte-ne-SPACE.false (λ p ps. rw (c.in-Digits.is, c.if-letter-eq83.true, c.narrow.ensures))

pub returns-else-letter-eq83 : goal.returns-else-letter-eq83
unfolding goes_on after_second number_from clipped_from
returns-else-letter-eq83 c = λ value. at-space refl c.if-byte-ne-SPACE.false (λ p ps. rw (c.in-Digits.is, ne_eqb _ 83 c.if-letter-eq83.false) (sym (last_none ps)))

pub returns-in-Empty : goal.returns-in-Empty
unfolding goes_on number_from
returns-in-Empty c =
    λ value. at-space refl c.if-byte-ne-SPACE.false (λ p ps. either c.in-Empty.is (λ e. rw (e, no_second)) (λ e. rw (e, no_second)))
