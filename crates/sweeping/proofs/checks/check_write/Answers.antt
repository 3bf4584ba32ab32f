-- Refused where the write is not done; then by what the node tells. Assumes nothing.
use mathlib.Core.Path.{◌≡◌, sym, ap, ◌∙◌}
use mathlib.Core.Bool.{true}
use mathlib.Core.List.{List}
use Prim.Native.Nat.{ℕ}
use borrow.Author.Tests.{not-true}
use Rattle.code.specs.Decode.{has}
use Rattle.code.specs.View.{node_set_of}
use Rattle.records.specs.declared.CheckStep.{CheckStep}
use Rattle.records.specs.View.{node_of, client_of}
use Rattle.machine.specs.Stripe.{Local}
use Rattle.calls.specs.Answers.{local}
use Rattle.sweeping.proofs.Checking.{check-undone, check-init, check-gc, check-same}
use Rattle.calls.proofs.Returns.{holds, refused-of-client}
use Rattle.sweeping.proofs.checks.check_write.Goals as goal
use Rattle.sweeping.proofs.checks.check_write.Goals.{Else-not-contains, Start}

abbrev lent : Start → List ℕ → List ℕ → Local
lent c blocks differences = local (node_of c.args.node) (client_of c.args.client) blocks differences

there : (c : Else-not-contains) → let a = c.args in has (node_set_of a.write.done) a.j ≡ true
there c = holds c.contains.ensures c.if-not-contains.false-raw

pub returns-then-not-contains : goal.returns-then-not-contains
returns-then-not-contains c blocks differences = let a = c.args in
    let undone = sym c.contains.ensures ∙ not-true _ c.if-not-contains.true-raw in
    refused-of-client c.refused.ensures (check-undone a.j a.client a.write (lent (goal.at.returns-then-not-contains c).Start blocks differences) c.requires.0 undone)

pub returns-in-Init : goal.returns-in-Init
returns-in-Init c blocks differences = let a = c.args in
    check-init a.j a.client a.write (lent (goal.at.returns-in-Init c).Start blocks differences) c.requires.0 (there (goal.at.returns-in-Init c).Else-not-contains) (ap (λ (x : CheckStep). x.answer) c.check-asked.ensures)
    c.in-Init.is c.leave.ensures

pub returns-in-Gc : goal.returns-in-Gc
returns-in-Gc c blocks differences = let a = c.args in
    check-gc a.j a.client a.write (lent (goal.at.returns-in-Gc c).Start blocks differences) c.requires.0 (there (goal.at.returns-in-Gc c).Else-not-contains) (ap (λ (x : CheckStep). x.answer) c.check-asked.ensures)
    c.in-Gc.is c.forget.ensures

pub returns-in-NoChange : goal.returns-in-NoChange
returns-in-NoChange c blocks differences = let a = c.args in
    check-same a.j a.client a.write (lent (goal.at.returns-in-NoChange c).Start blocks differences) c.requires.0 (there (goal.at.returns-in-NoChange c).Else-not-contains) (ap (λ (x : CheckStep). x.answer) c.check-asked.ensures)
    c.in-NoChange.is
