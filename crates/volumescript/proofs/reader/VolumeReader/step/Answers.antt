-- `volumescript::reader::VolumeReader::step` meets its contract. Assumes nothing.
use mathlib.Core.Path.{refl}
use Rattle.volumescript.specs.Lines.{of_each, of_one}
use Rattle.volumescript.specs.Reading.{goes_on, with_bytes}
use Rattle.volumescript.proofs.Clips.{longer-word, word_number}
use Rattle.volumescript.proofs.Reading.{at-space, at_other, within-line}
use Rattle.volumescript.proofs.reader.VolumeReader.step.Goals as goal

pub returns-in-Unreadable : goal.returns-in-Unreadable
unfolding goes_on
returns-in-Unreadable c = rw c.in-Unreadable.is record { room = refl; tells = λ rest. refl }

pub returns-in-Start : goal.returns-in-Start
returns-in-Start c = rw c.in-Start.is (c.start_step.ensures _)

pub returns-in-Letter : goal.returns-in-Letter
returns-in-Letter c = rw c.in-Letter.is (c.letter_step.ensures _)

pub returns-then-byte-eq-SPACE : goal.returns-then-byte-eq-SPACE
unfolding goes_on
returns-then-byte-eq-SPACE c = rw c.in-Word.is (at-space c.if-byte-eq-SPACE.true (λ p ps. word_number _ c.in-Word.word p ps))

pub returns-else-byte-eq-SPACE : goal.returns-else-byte-eq-SPACE
unfolding goes_on
returns-else-byte-eq-SPACE c = rw c.in-Word.is (at_other c.if-byte-eq-SPACE.false (λ p ps. rw (longer-word c.in-Word.word _ p ps)))

pub returns-in-Stripe : goal.returns-in-Stripe
returns-in-Stripe c = rw c.in-Stripe.is (c.stripe_step.ensures _)

pub returns-in-First : goal.returns-in-First
returns-in-First c = rw c.in-First.is (c.first_step.ensures _)

pub returns-in-Block : goal.returns-in-Block
returns-in-Block c = rw c.in-Block.is (c.block_step.ensures _)

pub returns-in-One : goal.returns-in-One
unfolding goes_on
returns-in-One c = rw c.in-One.is (within-line (of_one c.in-One.s) (λ ps. refl) (λ ps. refl) c.step.ensures)

pub returns-in-Each : goal.returns-in-Each
unfolding goes_on
returns-in-Each c = rw c.in-Each.is (within-line of_each (λ ps. refl) (λ ps. refl) c.step-in-Each.ensures)

pub returns-in-Value : goal.returns-in-Value
unfolding goes_on
returns-in-Value c = rw c.in-Value.is (within-line (with_bytes c.in-Value.c c.in-Value.b) (λ ps. refl) (λ ps. refl) c.step-in-Value.ensures)
