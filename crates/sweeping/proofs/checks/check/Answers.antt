-- The tests, in order; then as the write in hand is checked. Assumes nothing.
use mathlib.Core.Path.{◌≡◌, ◌∙◌}
use mathlib.Core.List.{List}
use Prim.Native.Nat.{ℕ}
use Rattle.records.specs.View.{node_of, client_of}
use Rattle.machine.specs.Stripe.{Local}
use Rattle.machine.specs.Writing as Writing
use Rattle.calls.specs.Answers.{local}
use Rattle.sweeping.proofs.Checking.{check-empty}
use Rattle.calls.proofs.Returns.{guards, holds, refused-of-client}
use Rattle.limits.proofs.Within.{lent-within}
use Rattle.sweeping.proofs.checks.check.Goals as goal
use Rattle.sweeping.proofs.checks.check.Goals.{Else-not-is_in_range, Start}

abbrev lent : Start → List ℕ → List ℕ → Local
lent c blocks differences = local (node_of c.args.node) (client_of c.args.client) blocks differences

-- past these tests
passed : (c : Else-not-is_in_range) (blocks differences : List ℕ) →
    let a = c.args in
    Writing.check_write a.j (client_of a.client).hand (lent (goal.at.Else-not-is_in_range c).Start blocks differences) ≡ Writing.check a.z a.c a.j (lent (goal.at.Else-not-is_in_range c).Start blocks differences)
unfolding Writing.check
passed c blocks differences =
    search (guards, c.is_within.ensures, c.if-not-is_within.false-raw, c.is_in_range.ensures, c.if-not-is_in_range.false-raw)

pub returns-then-not-is_within : goal.returns-then-not-is_within
unfolding Writing.check
returns-then-not-is_within c blocks differences = refused-of-client c.refused.ensures (search (guards, c.is_within.ensures, c.if-not-is_within.true-raw))

pub returns-then-not-is_in_range : goal.returns-then-not-is_in_range
unfolding Writing.check
returns-then-not-is_in_range c blocks differences = refused-of-client c.refused-then-not-is_in_range.ensures (search (guards, c.is_within.ensures, c.if-not-is_within.false-raw, c.is_in_range.ensures, c.if-not-is_in_range.true-raw))

pub check_write-requires : goal.check_write-requires
check_write-requires c = let a = c.args in
    let known = lent-within a.z a.node a.client (holds c.is_within.ensures c.if-not-is_within.false-raw) in
    (c.in-Some.is, known.entries)

pub returns-in-None : goal.returns-in-None
returns-in-None c blocks differences = refused-of-client c.refused-in-None.ensures
    (check-empty c.args.j c.args.client (lent (goal.at.returns-in-None c).Start blocks differences) c.in-None.is ∙ passed (goal.at.returns-in-None c).Else-not-is_in_range blocks differences)

pub returns-in-Some : goal.returns-in-Some
returns-in-Some c blocks differences = rw (← passed (goal.at.returns-in-Some c).Else-not-is_in_range blocks differences) (c.check_write.ensures blocks differences)
