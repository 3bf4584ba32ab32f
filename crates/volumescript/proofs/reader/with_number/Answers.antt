-- By cases of the number and the word. Assumes nothing.
use Rattle.script.specs.Reading.{clipped_from, number_from}
use Rattle.script.proofs.Clips.{either}
use Rattle.volumescript.specs.Reading.{after_number}
use Rattle.volumescript.proofs.Clips.{no_number}
use Rattle.volumescript.proofs.reader.with_number.Goals as goal

pub returns-in-Show : goal.returns-in-Show
unfolding after_number number_from clipped_from
returns-in-Show c = λ value room. rw (c.in-Digits.is, c.in-Show.is)

pub returns-in-Read : goal.returns-in-Read
unfolding after_number number_from clipped_from
returns-in-Read c = λ value room. rw (c.in-Digits.is, c.in-Read.is)

pub returns-in-Swap : goal.returns-in-Swap
unfolding after_number number_from clipped_from
returns-in-Swap c = λ value room. rw (c.in-Digits.is, c.in-Swap.is)

pub returns-in-Empty : goal.returns-in-Empty
unfolding number_from
returns-in-Empty c = λ value room. either c.in-Empty.is (λ e. rw (e, no_number)) (λ e. rw (e, no_number))
