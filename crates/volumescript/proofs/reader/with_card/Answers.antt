-- `volumescript::reader::with_card` meets its contract. Assumes nothing.
use native.Mathlib.Omega.{arith}
use Rattle.script.specs.Reading as script
use Rattle.volumescript.specs.Reading.{goes_on}
use Rattle.volumescript.proofs.Clips.{fail-line, no-card, stop-line}
use Rattle.volumescript.proofs.Reading.{at_other}
use Rattle.volumescript.proofs.reader.with_card.Goals as goal

pub returns-in-67 : goal.returns-in-67
unfolding goes_on script.goes_on
returns-in-67 c = λ value. at_other (λ e. omega (arith, e)) (λ p ps. rw c.in-67.is (stop-line _ p ps))

pub returns-in-78 : goal.returns-in-78
unfolding goes_on script.goes_on
returns-in-78 c = λ value. at_other (λ e. omega (arith, e)) (λ p ps. rw c.in-78.is (fail-line _ p ps))

pub returns-in_default : goal.returns-in_default
unfolding goes_on
returns-in_default c = λ value. at_other (λ e. omega (arith, e)) (λ p ps. rw (no-card c.args.letter (λ e. omega (arith, e)) (λ e. omega (arith, e)) p ps))
