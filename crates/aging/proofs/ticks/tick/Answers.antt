-- The test, then what becomes of the nodes. Assumes nothing.
use mathlib.Core.Path.{sym, ◌∙◌}
use borrow.Author.Tests.{not-true, not-false}
use Rattle.basics.proofs.Tests.{and_right}
use Rattle.records.specs.Sizes.{sizes_within}
use Rattle.machine.specs.Aging as Aging
use Rattle.machine.specs.Stripe.{guard}
use Rattle.aging.proofs.Ticking.{limits-seen, nodes-ticked}
use Rattle.aging.proofs.ticks.tick.Goals as goal

pub returns-then-not-are_within : goal.returns-then-not-are_within
unfolding Aging.tick guard
returns-then-not-are_within c n nodes client blocks spare sees = let out = sym (limits-seen sees) ∙ sym c.are_within.ensures ∙ not-true _ c.if-not-are_within.true-raw in
    record { said = rw (c.keep.ensures, out); left = c.keep.ensures }

pub returns : goal.returns
unfolding Aging.tick guard
returns c n nodes client blocks spare sees = let z = c.args.z in
    let fit = sym (limits-seen sees) ∙ sym c.are_within.ensures ∙ not-false _ c.if-not-are_within.false-raw in
    record { said = rw (c.tick.ensures, fit, nodes-ticked z nodes (and_right (sizes_within z) _ fit)); left = tt }
