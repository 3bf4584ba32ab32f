-- `script::reader::value_step` meets its contract. Assumes nothing.
use mathlib.Core.Path.{refl}
use Rattle.script.specs.Lines.{bytes_of}
use Rattle.script.specs.Reading.{goes_on, bytes_from}
use Rattle.script.proofs.Reading.{at-space, at_other}
use Rattle.script.proofs.Clips.{stored-value}
use Rattle.script.proofs.reader.value_step.Goals as goal

pub returns-then-byte-eq-SPACE : goal.returns-then-byte-eq-SPACE
unfolding goes_on
returns-then-byte-eq-SPACE c = at-space refl c.if-byte-eq-SPACE.true (λ p ps. refl)

pub returns-in-None : goal.returns-in-None
unfolding goes_on bytes_from bytes_of
returns-in-None c = at_other refl c.if-byte-eq-SPACE.false (λ p ps. rw (c.in-Half.is, rw c.in-None.is at c.hex_byte.ensures))

pub returns-in-Whole : goal.returns-in-Whole
unfolding goes_on bytes_from bytes_of
returns-in-Whole c = at_other refl c.if-byte-eq-SPACE.false (λ p ps. rw c.in-Whole.is)

pub returns-in-Bad : goal.returns-in-Bad
unfolding goes_on bytes_from
returns-in-Bad c = at_other refl c.if-byte-eq-SPACE.false (λ p ps. rw c.in-Bad.is)

pub returns-in-Some : goal.returns-in-Some
unfolding goes_on bytes_from bytes_of
returns-in-Some c =
    at_other c.store.ensures.room c.if-byte-eq-SPACE.false
    (λ p ps. rw (c.in-Half.is, rw c.in-Some.is at c.hex_byte.ensures, stored-value c.store.ensures (bytes_of p)))
