-- The tests of range and phase, in order; then by the node's answer and the client's own limits. Assumes nothing.
use mathlib.Core.Path.{◌≡◌, refl, sym, ◌∙◌}
use mathlib.Core.Bool.{true, false, ◌&&◌, ◌||◌}
use lib.Dec.{leb}
use borrow.Author.Tests.{not-true, not-false}
use Rattle.entries.proofs.Lists.{ids-count}
use Rattle.records.specs.Sizes.{is_position, is_client}
use Rattle.records.specs.Client.{has_write}
use Rattle.records.specs.View.{node_of, client_of}
use Rattle.machine.proofs.Tests.{swap-out}
use Rattle.calls.proofs.Stepping.{steps-refused, steps-made}
use Rattle.swapping.proofs.Swapping.{swap-busy, swap-refused, swap-full, swap-exhausted, swap-free}
use Rattle.swapping.proofs.swaps.step_records.Goals as goal
use Rattle.swapping.proofs.swaps.step_records.Goals.{Else-not-is_in_range, Else-is_busy}

in-range : (c : Else-not-is_in_range) → let a = c.args in (is_client a.z a.c && is_position a.z a.i) ≡ true
in-range c = sym c.is_in_range.ensures ∙ not-false _ c.if-not-is_in_range.false-raw

idle : (c : Else-is_busy) → let a = c.args in (has_write (client_of a.client).hand || leb 1 (client_of a.client).round) ≡ false
idle c = sym c.is_busy.ensures ∙ c.if-is_busy.false

pub returns-then-not-is_in_range : goal.returns-then-not-is_in_range
returns-then-not-is_in_range c value blocks differences = let a = c.args in
    steps-refused (swap-out a.z a.c a.i (node_of a.node) (client_of a.client) (sym c.is_in_range.ensures ∙ not-true _ c.if-not-is_in_range.true-raw))
    c.refused.ensures

pub returns-then-is_busy : goal.returns-then-is_busy
returns-then-is_busy c value blocks differences = let a = c.args in
    steps-refused (swap-busy a.z a.c a.i (node_of a.node) (client_of a.client) (in-range (goal.at.returns-then-is_busy c).Else-not-is_in_range) (sym c.is_busy.ensures ∙ c.if-is_busy.true))
    c.refused-then-is_busy.ensures

pub returns-in-Err : goal.returns-in-Err
returns-in-Err c value blocks differences = let a = c.args in
    steps-refused (swap-refused a.z a.c a.i (node_of a.node) (client_of a.client) (in-range (goal.at.returns-in-Err c).Else-not-is_in_range) (idle (goal.at.returns-in-Err c).Else-is_busy)
    (sym c.in-Err.is ∙ c.swap-step.ensures.answered))
    c.refused-in-Err.ensures

pub returns-then-client-ge-LIMIT : goal.returns-then-client-ge-LIMIT
returns-then-client-ge-LIMIT c value blocks differences = let a = c.args in
    steps-refused (swap-full a.z a.c a.i (node_of a.node) (client_of a.client) (in-range (goal.at.returns-then-client-ge-LIMIT c).Else-not-is_in_range) (idle (goal.at.returns-then-client-ge-LIMIT c).Else-is_busy)
    (sym c.in_default.is ∙ c.swap-step.ensures.answered) (rw ids-count c.if-client-ge-LIMIT.true))
    c.refused-then-client-ge-LIMIT.ensures

pub returns-then-client-ge-WRITES : goal.returns-then-client-ge-WRITES
returns-then-client-ge-WRITES c value blocks differences = let a = c.args in
    steps-refused (swap-exhausted a.z a.c a.i (node_of a.node) (client_of a.client) (in-range (goal.at.returns-then-client-ge-WRITES c).Else-not-is_in_range) (idle (goal.at.returns-then-client-ge-WRITES c).Else-is_busy)
    (sym c.in_default.is ∙ c.swap-step.ensures.answered) (rw ids-count c.if-client-ge-LIMIT.false) c.if-client-ge-WRITES.true)
    c.refused-then-client-ge-WRITES.ensures

pub begin-requires : goal.begin-requires
begin-requires c = (c.requires, c.if-client-ge-WRITES.false)

pub returns : goal.returns
returns c value blocks differences = let a = c.args in
    let id = c.next_id-id.ensures in
    steps-made (swap-free a.z a.c a.i (node_of a.node) (client_of a.client) (in-range (goal.at.returns c).Else-not-is_in_range) (idle (goal.at.returns c).Else-is_busy)
    (sym c.in_default.is ∙ c.swap-step.ensures.answered) (rw ids-count c.if-client-ge-LIMIT.false) c.if-client-ge-WRITES.false)
    refl (rw (c.in_default.is, id) at c.swap-step.ensures.left) (rw id at c.begin.ensures)
