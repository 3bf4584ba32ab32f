-- The tests, in order. Assumes nothing.
use mathlib.Core.Path.{sym, ◌∙◌}
use borrow.Author.Tests.{not-true, not-false}
use Rattle.basics.proofs.Tests.{and_left}
use Rattle.calls.proofs.Returns.{holds}
use Rattle.records.specs.Sizes.{sizes_within}
use Rattle.reading.proofs.Answering.{outside, no-position, shows-live, not-picked, not-tight, spare-outside, shows-spare}
use Rattle.reading.proofs.read.Goals as goal

pub returns-then-not-is_within : goal.returns-then-not-is_within
returns-then-not-is_within c s h = outside h (sym c.is_within.ensures ∙ not-true _ c.if-not-is_within.true-raw)

pub returns-then-not-is_position : goal.returns-then-not-is_position
returns-then-not-is_position c s h = no-position h (holds c.is_within.ensures c.if-not-is_within.false-raw) (sym c.is_position.ensures ∙ not-true _ c.if-not-is_position.true-raw)

pub returns-then-is_free : goal.returns-then-is_free
returns-then-is_free c s h = shows-live h (holds c.is_within.ensures c.if-not-is_within.false-raw) (holds c.is_position.ensures c.if-not-is_position.false-raw)
    (sym c.is_free.ensures ∙ c.if-is_free.true)

pub returns-then-not-has_picked : goal.returns-then-not-has_picked
returns-then-not-has_picked c s h = not-picked h (holds c.is_within.ensures c.if-not-is_within.false-raw) (holds c.is_position.ensures c.if-not-is_position.false-raw)
    (sym c.is_free.ensures ∙ c.if-is_free.false) c.wrong_mode.ensures (sym c.has_picked.ensures ∙ not-true _ c.if-not-has_picked.true-raw)

pub returns-then-not-seen : goal.returns-then-not-seen
returns-then-not-seen c s h = not-tight h (holds c.is_within.ensures c.if-not-is_within.false-raw) (holds c.is_position.ensures c.if-not-is_position.false-raw)
    (sym c.is_free.ensures ∙ c.if-is_free.false) (holds c.has_picked.ensures c.if-not-has_picked.false-raw)
    c.wrong_mode-then-not-seen.ensures (not-true _ c.if-not-seen.true)

pub spare_fits-requires : goal.spare_fits-requires
spare_fits-requires c = and_left (sizes_within _) _ (holds c.is_within.ensures c.if-not-is_within.false-raw)

pub returns-then-not-spare_fits : goal.returns-then-not-spare_fits
returns-then-not-spare_fits c s h = spare-outside h (holds c.is_within.ensures c.if-not-is_within.false-raw) (holds c.is_position.ensures c.if-not-is_position.false-raw)
    (sym c.is_free.ensures ∙ c.if-is_free.false) (holds c.has_picked.ensures c.if-not-has_picked.false-raw)
    (not-false _ c.if-not-seen.false) (sym c.spare_fits.ensures ∙ not-true _ c.if-not-spare_fits.true-raw)

pub returns : goal.returns
returns c s h = shows-spare h (holds c.is_within.ensures c.if-not-is_within.false-raw) (holds c.is_position.ensures c.if-not-is_position.false-raw)
    (sym c.is_free.ensures ∙ c.if-is_free.false) (holds c.has_picked.ensures c.if-not-has_picked.false-raw)
    (not-false _ c.if-not-seen.false) (holds c.spare_fits.ensures c.if-not-spare_fits.false-raw)
