-- `volumescript::reader::letter_step` meets its contract. Assumes nothing.
use native.Mathlib.Omega.{arith}
use Rattle.volumescript.specs.Reading.{goes_on}
use Rattle.volumescript.proofs.Clips.{no_second}
use Rattle.volumescript.proofs.Reading.{at_other}
use Rattle.volumescript.proofs.reader.letter_step.Goals as goal

pub returns-in-32 : goal.returns-in-32
returns-in-32 c = λ value. rw c.in-32.is (c.after_mark.ensures value)

pub returns-in-66 : goal.returns-in-66
returns-in-66 c = λ value. rw c.in-66.is (c.with_block.ensures value)

pub returns-in-67 : goal.returns-in-67
returns-in-67 c = λ value. rw c.in-67.is (c.with_card.ensures value)

pub returns-in_default : goal.returns-in_default
unfolding goes_on
returns-in_default c = λ value. at_other (λ e. omega (arith, e)) (λ p ps. rw (no_second c.args.letter c.args.byte (λ e. omega (arith, e)) (λ e. omega (arith, e)) p ps))
