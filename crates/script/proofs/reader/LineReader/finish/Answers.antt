-- `script::reader::LineReader::finish` meets its contract. Assumes nothing.
use mathlib.Core.Path.{refl, sym, ◌∙◌}
use mathlib.Core.List.{append-nil}
use lib.ListN.{length}
use Rattle.script.specs.Lines.{line_of, call_by, bytes_of}
use Rattle.script.specs.Reading.{goes_on, after_first, after_second, number_from, clipped_from, bytes_from}
use Rattle.script.proofs.Clips.{either, clip-kept, clip-none, no_value}
use Rattle.script.proofs.reader.LineReader.finish.Goals as goal

pub returns-in-Unreadable : goal.returns-in-Unreadable
unfolding goes_on line_of
returns-in-Unreadable c =
    either c.in-Unreadable.is (λ e. rw e record { tells = λ value. refl }) (λ e. rw e record { tells = λ value. refl })

pub returns-in-Letter : goal.returns-in-Letter
unfolding goes_on line_of call_by
returns-in-Letter c =
    rw c.in-Letter.is record { tells = λ value. c.with_none.ensures value ∙ sym (clip-none (length value) _) }

pub returns-in-Digits : goal.returns-in-Digits
unfolding goes_on after_first number_from clipped_from
returns-in-Digits c = rw c.in-First.is record { tells = λ value. rw c.in-Digits.is (rw c.narrow.ensures at (c.with_one.ensures value)) }

pub returns-in-Empty : goal.returns-in-Empty
unfolding goes_on after_first number_from
returns-in-Empty c =
    rw c.in-First.is record { tells = λ value. either c.in-Empty.is (λ e. rw e) (λ e. rw e) }

pub returns-in-Digits-second : goal.returns-in-Digits-second
unfolding goes_on after_second number_from clipped_from
returns-in-Digits-second c = rw c.in-Second.is record { tells = λ value. rw c.in-Digits-second.is (rw c.narrow-in-Digits-second.ensures at (c.with_two.ensures value)) }

pub returns-in-Empty-second : goal.returns-in-Empty-second
unfolding goes_on after_second number_from
returns-in-Empty-second c =
    rw c.in-Second.is record { tells = λ value. either c.in-Empty-second.is (λ e. rw e) (λ e. rw e) }

pub returns-in-Whole : goal.returns-in-Whole
unfolding goes_on bytes_from bytes_of
returns-in-Whole c = rw c.in-Value.is record { tells = λ value. rw (c.in-Whole.is, append-nil, clip-kept) (c.with_value.ensures value) }

pub returns-in-Half : goal.returns-in-Half
unfolding goes_on bytes_from bytes_of
returns-in-Half c =
    rw c.in-Value.is record { tells = λ value. either c.in-Half.is (λ e. rw (e.1, no_value)) (λ e. rw (e, no_value)) }
