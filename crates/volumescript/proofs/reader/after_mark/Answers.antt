-- `volumescript::reader::after_mark` meets its contract. Assumes nothing.
use mathlib.Core.Path.{refl, sym}
use borrow.Author.Tests.{ne_eqb}
use Rattle.volumescript.specs.Lines.{by_word}
use Rattle.volumescript.specs.Reading.{goes_on}
use Rattle.volumescript.proofs.Clips.{clip-show}
use Rattle.volumescript.proofs.Reading.{at-space}
use Rattle.volumescript.proofs.reader.after_mark.Goals as goal

pub returns-then-letter-eq63 : goal.returns-then-letter-eq63
unfolding goes_on by_word
returns-then-letter-eq63 c = λ value. at-space refl (λ p ps. rw c.if-letter-eq63.true (sym (clip-show _ p ps)))

pub returns-else-letter-eq63 : goal.returns-else-letter-eq63
unfolding goes_on by_word
returns-else-letter-eq63 c = λ value. at-space refl (λ p ps. rw (ne_eqb _ 63 c.if-letter-eq63.false))
