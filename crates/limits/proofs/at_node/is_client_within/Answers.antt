-- The tests, in order. Assumes nothing.
use mathlib.Core.Path.{sym, ◌∙◌}
use Rattle.entries.proofs.Tests.{tests}
use Rattle.limits.proofs.at_node.is_client_within.Goals as goal

pub is_within-requires : goal.is_within-requires
is_within-requires c = sym c.within.ensures ∙ c.if-within.true

pub returns-then-within : goal.returns-then-within
returns-then-within c = search tests

pub returns-else-within : goal.returns-else-within
returns-else-within c = search tests
