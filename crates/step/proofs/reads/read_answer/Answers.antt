-- Outside the limits it is refused; else the records taken out, and the read on them. Assumes nothing.
use mathlib.Core.Path.{sym, ◌∙◌}
use borrow.Author.Tests.{not-true, not-false}
use Rattle.limits.proofs.Limits.{clients-few}
use Rattle.records.proofs.Limits.{nodes-few}
use Rattle.step.proofs.Playing.{answers, answers-outside}
use Rattle.step.proofs.reads.read_answer.Goals as goal

pub returns-then-not-within : goal.returns-then-not-within
returns-then-not-within c = let a = c.args in
    answers-outside a.z a.i a.stripe a.blocks a.spare (sym c.within.ensures ∙ not-true _ c.if-not-within.true-raw)

pub get-node-requires : goal.get-node-requires
get-node-requires c = nodes-few _ (sym c.within.ensures ∙ not-false _ c.if-not-within.false-raw)

pub get-client-requires : goal.get-client-requires
get-client-requires c = clients-few _ (sym c.within.ensures ∙ not-false _ c.if-not-within.false-raw)

pub returns : goal.returns
returns c = let a = c.args in
    answers a.z a.i a.stripe a.blocks a.spare c.read.result c.get-node.ensures c.holder_number-c.ensures
    c.get-client.ensures c.see-seen.ensures c.read.ensures
