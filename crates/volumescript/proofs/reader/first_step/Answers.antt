-- `volumescript::reader::first_step` meets its contract. Assumes nothing.
use Rattle.script.specs.Reading.{clipped_from, number_from}
use Rattle.script.proofs.Clips.{either}
use Rattle.volumescript.specs.Reading.{after_number, goes_on}
use Rattle.volumescript.proofs.Clips.{no-client}
use Rattle.volumescript.proofs.Reading.{at-space, at_other}
use Rattle.volumescript.proofs.reader.first_step.Goals as goal

pub returns-then-byte-ne-SPACE : goal.returns-then-byte-ne-SPACE
unfolding goes_on
returns-then-byte-ne-SPACE c = λ value. at_other c.if-byte-ne-SPACE.true (λ p ps. rw (c.extended.ensures p))

pub returns-in-Show : goal.returns-in-Show
unfolding goes_on after_number
returns-in-Show c = λ value. at-space c.if-byte-ne-SPACE.false (λ p ps. either c.in-Show.is (λ e. rw e) (λ e. rw e))

pub returns-in-Digits : goal.returns-in-Digits
unfolding goes_on after_number number_from clipped_from
returns-in-Digits c = λ value. at-space c.if-byte-ne-SPACE.false (λ p ps. rw (c.in-Swap.is, c.in-Digits.is, c.narrow.ensures))

pub returns-in-Empty : goal.returns-in-Empty
unfolding goes_on after_number number_from
returns-in-Empty c =
    λ value. at-space c.if-byte-ne-SPACE.false (λ p ps. rw c.in-Swap.is (either c.in-Empty.is (λ e. rw (e, no-client)) (λ e. rw (e, no-client))))
