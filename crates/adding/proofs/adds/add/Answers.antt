-- The test of the limits, then the step of the two records; then the bytes. Assumes nothing.
use Rattle.std.specs.Prelude.{Option, None}
use mathlib.Core.Path.{◌≡◌, sym, ◌∙◌}
use mathlib.Core.Bool.{true}
use Rattle.basics.proofs.Tests.{and_right}
use Rattle.records.specs.declared.Refusal.{Refusal}
use Rattle.records.specs.Sizes.{sizes_within}
use Rattle.records.specs.Node.{node_within}
use Rattle.records.specs.View.{node_of, write_of, client_of}
use Rattle.machine.specs.Stripe.{Local, Outcome}
use Rattle.machine.specs.Writing as Writing
use Rattle.machine.specs.Writing.{unless, add_tests, added}
use Rattle.machine.proofs.Tests.{add-passes, add-empty}
use Rattle.calls.specs.Answers.{local}
use Rattle.calls.proofs.Returns.{guards, holds, refused-at-node}
use Rattle.adding.specs.Adding.{add_within}
use Rattle.adding.proofs.Adding.{added-zero}
use Rattle.adding.proofs.Ready.{records-fit, hand-position, tables-there}
use Rattle.calls.proofs.Stepping.{passed, call-refused, call-accepted}
use Rattle.adding.proofs.adds.add.Goals as goal
use Rattle.adding.proofs.adds.add.Goals.{Else-not-is_within, Else-number-ne0, Start}

abbrev lent : Start → Local
lent c = let a = c.args in local (node_of a.node) (client_of a.client) a.blocks.now a.differences.now

abbrev tests : Start → Option Refusal
tests c = let a = c.args in add_tests a.z a.c a.j (node_of a.node) (client_of a.client)

abbrev effect : Start → Outcome Local
effect c = let a = c.args in added a.z a.c a.j (client_of a.client).hand (lent c)

-- past the limits
within : (c : Else-not-is_within) → add_within c.args.z (lent (goal.at.Else-not-is_within c).Start) ≡ true
within c =
    holds {t = add_within c.args.z (lent (goal.at.Else-not-is_within c).Start)} c.is_within.ensures c.if-not-is_within.false-raw

whole : (c : Else-not-is_within) →
    let a = c.args in
    unless (tests (goal.at.Else-not-is_within c).Start) (lent (goal.at.Else-not-is_within c).Start) (effect (goal.at.Else-not-is_within c).Start) ≡ Writing.add a.z a.c a.j (lent (goal.at.Else-not-is_within c).Start)
unfolding Writing.add
whole c = search (guards, c.is_within.ensures, c.if-not-is_within.false-raw)

none-refuses : (c : Else-number-ne0) → tests (goal.at.Else-number-ne0 c).Start ≡ None
none-refuses c =
    let a = c.args in
    passed {effect = effect (goal.at.Else-number-ne0 c).Start} (tests (goal.at.Else-number-ne0 c).Start) (c.step_records-stepped.ensures a.blocks.now a.differences.now) (sym c.number.ensures ∙ c.if-number-ne0.false)

pub returns-then-not-is_within : goal.returns-then-not-is_within
unfolding Writing.add
returns-then-not-is_within c = refused-at-node c.refused.ensures (search (guards, c.is_within.ensures, c.if-not-is_within.true-raw))

pub step_records-stepped-requires : goal.step_records-stepped-requires
step_records-stepped-requires c = records-fit c.args.z (lent (goal.at.step_records-stepped-requires c).Start) (within (goal.at.step_records-stepped-requires c).Else-not-is_within)

pub returns-then-number-ne0 : goal.returns-then-number-ne0
returns-then-number-ne0 c = let a = c.args in
    rw (← whole (goal.at.returns-then-number-ne0 c).Else-not-is_within)
    (call-refused {effect = effect (goal.at.returns-then-number-ne0 c).Start} a.blocks.now a.differences.now (tests (goal.at.returns-then-number-ne0 c).Start) (added-zero a.z a.c a.j (lent (goal.at.returns-then-number-ne0 c).Start))
    (c.step_records-stepped.ensures a.blocks.now a.differences.now) (λ q. c.if-number-ne0.true (c.number.ensures ∙ q)))

pub add_bytes-requires : goal.add_bytes-requires
add_bytes-requires c = let a = c.args in
    let held = c.in-Some.is in
    let passes = add-passes a.z a.c a.j (node_of a.node) (client_of a.client) (write_of c.in-Some.write) (rw held) (none-refuses (goal.at.add_bytes-requires c).Else-number-ne0) in
    let there = tables-there a.z (lent (goal.at.add_bytes-requires c).Start) (within (goal.at.add_bytes-requires c).Else-not-is_within) a.c a.j passes.range in
    let owned = and_right (node_within a.z (node_of a.node)) _ (and_right (sizes_within a.z) _ (records-fit a.z (lent (goal.at.add_bytes-requires c).Start) (within (goal.at.add_bytes-requires c).Else-not-is_within))) in
    (there.node_first, there.block_there, there.client_first, there.difference_there, hand-position a.z a.client _ held owned)

pub returns-in-Some : goal.returns-in-Some
returns-in-Some c = let a = c.args in
    let held = c.in-Some.is in
    rw (← whole (goal.at.returns-in-Some c).Else-not-is_within)
    (call-accepted {effect = effect (goal.at.returns-in-Some c).Start} a.blocks.now a.differences.now (tests (goal.at.returns-in-Some c).Start) (c.step_records-stepped.ensures a.blocks.now a.differences.now)
    (sym c.number.ensures ∙ c.if-number-ne0.false) (rw held c.add_bytes.ensures) (rw held))

pub returns-in_default : goal.returns-in_default
returns-in_default c = let a = c.args in
    add-empty a.z a.c a.j (node_of a.node) (client_of a.client) (rw c.in_default.is) (none-refuses (goal.at.returns-in_default c).Else-number-ne0)
