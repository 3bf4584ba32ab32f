-- Outside the limits every call is refused; else by the call. Assumes nothing.
use mathlib.Core.Path.{sym, ◌∙◌}
use borrow.Author.Tests.{not-true, not-false}
use Rattle.step.proofs.Playing.{plays-outside, plays-read}
use Rattle.step.proofs.plays.play.Goals as goal

pub returns-then-not-within : goal.returns-then-not-within
returns-then-not-within c = let a = c.args in
    plays-outside a.z a.call a.value.now a.stripe a.blocks.now a.spare.now a.differences.now
    (sym c.within.ensures ∙ not-true _ c.if-not-within.true-raw)

pub pick-requires : goal.pick-requires
pick-requires c = sym c.within.ensures ∙ not-false _ c.if-not-within.false-raw

pub play_step-requires : goal.play_step-requires
play_step-requires c = sym c.within.ensures ∙ not-false _ c.if-not-within.false-raw

pub returns-in-Read : goal.returns-in-Read
returns-in-Read c = rw c.in-Read.is (plays-read _ _ _ _ _ _ _ _ c.read_answer.ensures)

pub returns-in-Pick : goal.returns-in-Pick
returns-in-Pick c = rw c.in-Pick.is (c.pick.ensures _ _)

pub returns-in-Step : goal.returns-in-Step
returns-in-Step c = rw c.in-Step.is c.play_step.ensures
