-- The tests, in order. Assumes nothing.
use Rattle.entries.proofs.Tests.{tests}
use Rattle.aging.proofs.ticks.are_within.Goals as goal

pub returns-then-within : goal.returns-then-within
returns-then-within c = search tests

pub returns-else-within : goal.returns-else-within
returns-else-within c = search tests
