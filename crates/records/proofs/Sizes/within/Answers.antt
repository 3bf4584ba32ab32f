-- The tests, in order; the first says that n is above k. Assumes nothing.
use mathlib.Core.Path.{sym, ◌∙◌}
use native.Mathlib.Omega.{arith}
use borrow.Author.Rules.{rules}
use Rattle.code.proofs.Sizes.{sizes-of}
use Rattle.entries.proofs.Tests.{tests}
use Rattle.records.specs.Sizes.{sizes_within}
use Rattle.records.proofs.Sizes.within.Goals as goal

pub hold-requires : goal.hold-requires
unfolding sizes_within
hold-requires c = search rules

pub overflow_sub-self : goal.overflow_sub-self
unfolding sizes_within
overflow_sub-self c = let z = c.args.self in
    omega (arith, sizes-of z.k z.n z.b (sym c.hold.ensures ∙ c.if-hold.true))

pub returns-then-self-ge1 : goal.returns-then-self-ge1
unfolding sizes_within
returns-then-self-ge1 c = search tests

pub returns-else-self-ge1 : goal.returns-else-self-ge1
unfolding sizes_within
returns-else-self-ge1 c = search tests

pub returns-else-self : goal.returns-else-self
unfolding sizes_within
returns-else-self c = search tests

pub returns-else-hold : goal.returns-else-hold
unfolding sizes_within
returns-else-hold c = search tests
