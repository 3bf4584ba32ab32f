-- `volumescript::reader::with_block` meets its contract. Assumes nothing.
use native.Mathlib.Omega.{arith}
use Rattle.volumescript.specs.Reading.{goes_on}
use Rattle.volumescript.proofs.Clips.{no_block}
use Rattle.volumescript.proofs.Reading.{at_other}
use Rattle.volumescript.proofs.reader.with_block.Goals as goal

pub returns-in-82 : goal.returns-in-82
unfolding goes_on
returns-in-82 c = λ value. at_other (λ e. omega (arith, e)) (λ p ps. rw c.in-82.is)

pub returns-in-83 : goal.returns-in-83
unfolding goes_on
returns-in-83 c = λ value. at_other (λ e. omega (arith, e)) (λ p ps. rw c.in-83.is)

pub returns-in_default : goal.returns-in_default
unfolding goes_on
returns-in_default c = λ value. at_other (λ e. omega (arith, e)) (λ p ps. rw (no_block c.args.letter (λ e. omega (arith, e)) (λ e. omega (arith, e)) p ps))
