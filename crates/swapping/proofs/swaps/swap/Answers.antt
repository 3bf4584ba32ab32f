-- The test of the limits, then the step of the two records; then the bytes. Assumes nothing.
use Rattle.std.specs.Prelude.{Option}
use mathlib.Core.Path.{◌≡◌, refl, sym, ◌∙◌}
use mathlib.Core.Bool.{true, ◌&&◌}
use Rattle.records.specs.declared.Refusal.{Refusal}
use Rattle.records.specs.Sizes.{is_position, is_client}
use Rattle.records.specs.View.{node_of, client_of}
use Rattle.records.proofs.Limits.{few-entries}
use Rattle.machine.specs.Stripe.{Local, Outcome, Accepted, answered}
use Rattle.machine.specs.Writing as Writing
use Rattle.machine.specs.Writing.{unless, swap_tests, swapped}
use Rattle.machine.proofs.Tests.{swap-passes}
use Rattle.calls.specs.Answers.{local}
use Rattle.calls.proofs.Returns.{holds, guards, refused-at-node}
use Rattle.calls.proofs.Stepping.{passed, call-refused, call-accepted}
use Rattle.swapping.proofs.Swapping.{is_within, value-long, position-low, block_there, client-low, difference_there, node-fits}
use Rattle.swapping.proofs.swaps.swap.Goals as goal
use Rattle.swapping.proofs.swaps.swap.Goals.{Else-not-is_within, Else-number-ne0, Start}

abbrev lent : Start → Local
lent c = let a = c.args in local (node_of a.node) (client_of a.client) a.blocks.now a.differences.now

abbrev tests : Start → Option Refusal
tests c = let a = c.args in swap_tests a.z a.c a.i (node_of a.node) (client_of a.client)

abbrev effect : Start → Outcome Local
effect c = let a = c.args in answered Accepted (swapped a.z a.c a.i a.value.now (lent c))

-- past the limits
within : (c : Else-not-is_within) → is_within c.args.z c.args.value.now (lent (goal.at.Else-not-is_within c).Start) ≡ true
within c =
    holds {t = is_within c.args.z c.args.value.now (lent (goal.at.Else-not-is_within c).Start)} c.is_within.ensures c.if-not-is_within.false-raw

whole : (c : Else-not-is_within) →
    let a = c.args in
    unless (tests (goal.at.Else-not-is_within c).Start) (lent (goal.at.Else-not-is_within c).Start) (effect (goal.at.Else-not-is_within c).Start) ≡ Writing.swap a.z a.c a.i a.value.now (lent (goal.at.Else-not-is_within c).Start)
unfolding Writing.swap
whole c = search (guards, c.is_within.ensures, c.if-not-is_within.false-raw)

range : (c : Else-number-ne0) →
    let a = c.args in
    (is_client a.z a.c && is_position a.z a.i) ≡ true
range c =
    let a = c.args in
    let none = passed {effect = effect (goal.at.Else-number-ne0 c).Start} (tests (goal.at.Else-number-ne0 c).Start) (c.step_records-stepped.ensures a.value.now a.blocks.now a.differences.now) (sym c.number.ensures ∙ c.if-number-ne0.false) in
    (swap-passes a.z a.c a.i (node_of a.node) (client_of a.client) none).range

pub returns-then-not-is_within : goal.returns-then-not-is_within
unfolding Writing.swap
returns-then-not-is_within c = refused-at-node c.refused.ensures (search (guards, c.is_within.ensures, c.if-not-is_within.true-raw))

pub step_records-stepped-requires : goal.step_records-stepped-requires
step_records-stepped-requires c = let a = c.args in
    few-entries a.z a.node (node-fits a.z a.value.now (lent (goal.at.step_records-stepped-requires c).Start) (within (goal.at.step_records-stepped-requires c).Else-not-is_within))

pub returns-then-number-ne0 : goal.returns-then-number-ne0
returns-then-number-ne0 c = let a = c.args in
    rw (← whole (goal.at.returns-then-number-ne0 c).Else-not-is_within)
    (call-refused {effect = effect (goal.at.returns-then-number-ne0 c).Start} a.blocks.now a.differences.now (tests (goal.at.returns-then-number-ne0 c).Start) (λ e. refl)
    (c.step_records-stepped.ensures a.value.now a.blocks.now a.differences.now) (λ q. c.if-number-ne0.true (c.number.ensures ∙ q)))

pub swap_bytes-requires : goal.swap_bytes-requires
swap_bytes-requires c = let a = c.args in
    let fit = within (goal.at.swap_bytes-requires c).Else-not-is_within in
    let there = range (goal.at.swap_bytes-requires c).Else-number-ne0 in
    (value-long a.z a.value.now (lent (goal.at.swap_bytes-requires c).Start) fit, position-low a.z a.value.now (lent (goal.at.swap_bytes-requires c).Start) fit a.c a.i there, block_there a.z a.value.now (lent (goal.at.swap_bytes-requires c).Start) fit a.c a.i there, client-low a.z a.value.now (lent (goal.at.swap_bytes-requires c).Start) fit a.c a.i there, difference_there a.z a.value.now (lent (goal.at.swap_bytes-requires c).Start) fit a.c a.i there)

pub returns : goal.returns
returns c = let a = c.args in
    rw (← whole (goal.at.returns c).Else-not-is_within)
    (call-accepted {effect = effect (goal.at.returns c).Start} a.blocks.now a.differences.now (tests (goal.at.returns c).Start) (c.step_records-stepped.ensures a.value.now a.blocks.now a.differences.now)
    (sym c.number.ensures ∙ c.if-number-ne0.false) c.swap_bytes.ensures.blocks c.swap_bytes.ensures.differences)
