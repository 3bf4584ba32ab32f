-- `volumescript::reader::VolumeReader::finish` meets its contract. Assumes nothing.
use mathlib.Core.Path.{refl, ap, ◌∙◌}
use Rattle.script.specs.Lines.{line_of, numeral}
use Rattle.script.proofs.Clips.{either}
use Rattle.volumescript.specs.Lines.{by_word, line_in, of_each, of_one}
use Rattle.volumescript.specs.Reading.{after_block, goes_on, with_bytes}
use Rattle.volumescript.proofs.Clips.{letter-alone, no_call, word-alone}
use Rattle.volumescript.proofs.reader.VolumeReader.finish.Goals as goal

pub returns-in-Unreadable : goal.returns-in-Unreadable
unfolding goes_on line_in numeral by_word line_of after_block
returns-in-Unreadable c =
    either c.in-Unreadable.is (λ e. rw e record { tells = λ value. refl })
    (λ start. either start (λ e. rw e record { tells = λ value. refl })
    (λ letter. either letter (λ e. rw e.1 record { tells = λ value. rw letter-alone })
    (λ word. either word (λ e. rw e.1 record { tells = λ value. rw word-alone })
    (λ stripe. either stripe (λ e. rw e.1 record { tells = λ value. rw no_call })
    (λ block. rw block.2 record { tells = λ value. refl })))))

pub returns-in-First : goal.returns-in-First
unfolding goes_on
returns-in-First c = rw c.in-First.is record { tells = λ value. c.with_number.ensures value _ }

pub returns-in-One : goal.returns-in-One
unfolding goes_on
returns-in-One c = rw c.in-One.is record { tells = λ value. c.one.ensures value ∙ ap (of_one c.in-One.s) (c.finish.ensures.tells value) }

pub returns-in-Each : goal.returns-in-Each
unfolding goes_on
returns-in-Each c = rw c.in-Each.is record { tells = λ value. c.each.ensures value ∙ ap of_each (c.finish-in-Each.ensures.tells value) }

pub returns-in-Value : goal.returns-in-Value
unfolding goes_on
returns-in-Value c =
    rw c.in-Value.is record { tells = λ value. c.swap.ensures value ∙ ap (with_bytes c.in-Value.c c.in-Value.b) (c.finish-in-Value.ensures.tells value) }
