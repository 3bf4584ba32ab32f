-- The tests, in order. Assumes nothing.
use Rattle.entries.proofs.Tests.{tests}
use Rattle.limits.proofs.at_node.are_records_within.Goals as goal

pub returns-then-is_within : goal.returns-then-is_within
returns-then-is_within c = search tests

pub returns-else-is_within : goal.returns-else-is_within
returns-else-is_within c = search tests
