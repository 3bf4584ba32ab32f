-- The tests, in order. Assumes nothing.
use mathlib.Core.Path.{sym, ◌∙◌}
use Rattle.entries.proofs.Tests.{tests}
use Rattle.rebuild.proofs.admission.is_within.Goals as goal

pub is_within-requires : goal.is_within-requires
is_within-requires c = sym c.within.ensures ∙ c.if-within.true

pub returns-then-seen : goal.returns-then-seen
returns-then-seen c = search tests

pub returns-else-seen : goal.returns-else-seen
returns-else-seen c = search tests

pub returns-else-within : goal.returns-else-within
returns-else-within c = search tests
