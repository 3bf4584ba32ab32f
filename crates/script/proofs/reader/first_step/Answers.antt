-- `script::reader::first_step` meets its contract. Assumes nothing.
use mathlib.Core.Path.{refl}
use borrow.Author.Tests.{ne_eqb}
use Rattle.script.specs.Reading.{goes_on, after_first, number_from, clipped_from, bytes_from}
use Rattle.script.proofs.Reading.{at-space, at_other}
use Rattle.script.proofs.Clips.{either, no-first}
use Rattle.script.proofs.reader.first_step.Goals as goal

pub returns-then-byte-ne-SPACE : goal.returns-then-byte-ne-SPACE
unfolding goes_on
returns-then-byte-ne-SPACE c = λ value. at_other refl c.if-byte-ne-SPACE.true (λ p ps. rw (c.extended.ensures p))

pub returns-then-letter-eq78 : goal.returns-then-letter-eq78
unfolding goes_on after_first number_from clipped_from bytes_from
returns-then-letter-eq78 c = λ value. at-space refl c.if-byte-ne-SPACE.false (λ p ps. rw (c.in-Digits.is, c.if-letter-eq78.true, c.narrow.ensures))

pub returns-else-letter-eq78 : goal.returns-else-letter-eq78
unfolding goes_on after_first number_from clipped_from
returns-else-letter-eq78 c = λ value. at-space refl c.if-byte-ne-SPACE.false (λ p ps. rw (c.in-Digits.is, ne_eqb _ 78 c.if-letter-eq78.false, c.narrow-else-letter-eq78.ensures))

pub returns-in-Empty : goal.returns-in-Empty
unfolding goes_on number_from
returns-in-Empty c =
    λ value. at-space refl c.if-byte-ne-SPACE.false (λ p ps. either c.in-Empty.is (λ e. rw (e, no-first)) (λ e. rw (e, no-first)))
