-- All nodes up to j are data nodes or in the set. Assumes nothing.
use mathlib.Core.Path.{sym, ◌∙◌}
use borrow.Author.Tests.{not-true, not-false}
use Rattle.adding.proofs.Completing.{had-start, had-on, had-hit, had-end}
use Rattle.adding.proofs.adds.has_redundant.Goals as goal

pub loop-j-init : goal.loop-j-init
loop-j-init c = had-start c.requires

pub returns-then-not-contains : goal.returns-then-not-contains
returns-then-not-contains c = had-hit c.loop-j.invariant c.loop-j-test.true (sym c.contains.ensures ∙ not-true _ c.if-not-contains.true-raw)

pub loop-j-preserved : goal.loop-j-preserved
loop-j-preserved c = had-on c.loop-j.invariant c.loop-j-test.true (sym c.contains.ensures ∙ not-false _ c.if-not-contains.false-raw)

pub returns : goal.returns
returns c = had-end c.loop-j.invariant c.loop-j-test.false
