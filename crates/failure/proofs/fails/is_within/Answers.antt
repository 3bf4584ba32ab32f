-- The tests, in order. Assumes nothing.
use mathlib.Core.Path.{sym, ◌∙◌}
use Rattle.entries.proofs.Tests.{tests}
use Rattle.failure.proofs.fails.is_within.Goals as goal

pub are_blocks-requires : goal.are_blocks-requires
are_blocks-requires c = sym c.within.ensures ∙ c.if-within.true

pub returns-then-are_blocks : goal.returns-then-are_blocks
returns-then-are_blocks c = search tests

pub returns-else-are_blocks : goal.returns-else-are_blocks
returns-else-are_blocks c = search tests

pub returns-else-within : goal.returns-else-within
returns-else-within c = search tests
