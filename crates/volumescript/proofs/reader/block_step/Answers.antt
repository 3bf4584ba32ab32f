-- `volumescript::reader::block_step` meets its contract. Assumes nothing.
use mathlib.Core.List.{[]}
use lib.ListN.{length}
use Rattle.script.specs.Lines.{bytes_of}
use Rattle.script.specs.Reading.{bytes_from, clipped_from, number_from, value_from}
use Rattle.script.specs.Reading as script
use Rattle.script.proofs.Clips.{either}
use Rattle.volumescript.specs.Reading.{after_block, goes_on}
use Rattle.volumescript.proofs.Clips.{no_line, swap-value}
use Rattle.volumescript.proofs.Reading.{at-space, at_other}
use Rattle.volumescript.proofs.reader.block_step.Goals as goal

pub returns-then-byte-ne-SPACE : goal.returns-then-byte-ne-SPACE
unfolding goes_on
returns-then-byte-ne-SPACE c = λ value. at_other c.if-byte-ne-SPACE.true (λ p ps. rw (c.extended.ensures p))

pub returns-in-Digits : goal.returns-in-Digits
unfolding goes_on script.goes_on after_block number_from clipped_from bytes_from
returns-in-Digits c =
    λ value. at-space c.if-byte-ne-SPACE.false (λ p ps. rw c.in-Digits.is (swap-value c.args.c _ (value_from (length value) [] (bytes_of p)) ps))

pub returns-in-Empty : goal.returns-in-Empty
unfolding goes_on after_block number_from
returns-in-Empty c = λ value. at-space c.if-byte-ne-SPACE.false (λ p ps. either c.in-Empty.is (λ e. rw (e, no_line)) (λ e. rw (e, no_line)))
