-- The tests, in order. Assumes nothing.
use Rattle.entries.proofs.Tests.{tests}
use Rattle.limits.proofs.tables.are_tables.Goals as goal

pub returns-then-are_blocks : goal.returns-then-are_blocks
returns-then-are_blocks c = search tests

pub returns-else-are_blocks : goal.returns-else-are_blocks
returns-else-are_blocks c = search tests
