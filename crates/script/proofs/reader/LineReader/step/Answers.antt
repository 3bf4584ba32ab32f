-- `script::reader::LineReader::step` meets its contract. Assumes nothing.
use mathlib.Core.Path.{refl, sym}
use Rattle.script.specs.Lines.{line_of}
use Rattle.script.specs.Reading.{goes_on}
use Rattle.script.proofs.Reading.{at-space, at_other}
use Rattle.script.proofs.Clips.{clip-fields}
use Rattle.script.proofs.reader.LineReader.step.Goals as goal

pub returns-in-Unreadable : goal.returns-in-Unreadable
unfolding goes_on
returns-in-Unreadable c = rw c.in-Unreadable.is record { room = refl; tells = λ rest. refl }

pub returns-then-byte-eq-SPACE : goal.returns-then-byte-eq-SPACE
unfolding goes_on line_of
returns-then-byte-eq-SPACE c = rw c.in-Start.is (at-space refl c.if-byte-eq-SPACE.true (λ p ps. refl))

pub returns-else-byte-eq-SPACE : goal.returns-else-byte-eq-SPACE
unfolding goes_on
returns-else-byte-eq-SPACE c = rw c.in-Start.is (at_other refl c.if-byte-eq-SPACE.false (λ p ps. refl))

pub returns-then-byte-eq-SPACE-2 : goal.returns-then-byte-eq-SPACE-2
unfolding goes_on line_of
returns-then-byte-eq-SPACE-2 c = rw c.in-Letter.is (at-space refl c.if-byte-eq-SPACE-2.true (λ p ps. sym (clip-fields _ _ p ps)))

pub returns-else-byte-eq-SPACE-2 : goal.returns-else-byte-eq-SPACE-2
unfolding goes_on line_of
returns-else-byte-eq-SPACE-2 c = rw c.in-Letter.is (at_other refl c.if-byte-eq-SPACE-2.false (λ p ps. refl))

pub returns-in-First : goal.returns-in-First
returns-in-First c = rw c.in-First.is (c.first_step.ensures _)

pub returns-in-Second : goal.returns-in-Second
returns-in-Second c = rw c.in-Second.is (c.second_step.ensures _)

pub returns-in-Value : goal.returns-in-Value
returns-in-Value c = rw c.in-Value.is c.value_step.ensures
