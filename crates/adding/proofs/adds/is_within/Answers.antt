-- The tests, in order. Assumes nothing.
use mathlib.Core.Path.{sym, ◌∙◌}
use Rattle.entries.proofs.Tests.{tests}
use Rattle.adding.proofs.adds.is_within.Goals as goal

pub is_within-requires-then-is_within : goal.is_within-requires-then-is_within
is_within-requires-then-is_within c = sym c.within.ensures ∙ c.if-within.true

pub are_tables-requires : goal.are_tables-requires
are_tables-requires c = sym c.within.ensures ∙ c.if-within.true

pub returns-then-is_within-2 : goal.returns-then-is_within-2
returns-then-is_within-2 c = search tests

pub returns-else-is_within-2 : goal.returns-else-is_within-2
returns-else-is_within-2 c = search tests

pub returns-else-is_within : goal.returns-else-is_within
returns-else-is_within c = search tests

pub returns-else-within : goal.returns-else-within
returns-else-within c = search tests
