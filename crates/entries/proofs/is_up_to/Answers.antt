-- The two tests, in order. Assumes nothing.
use Rattle.entries.proofs.Tests.{tests}
use Rattle.entries.proofs.is_up_to.Goals as goal

pub returns-then-x-ge1 : goal.returns-then-x-ge1
returns-then-x-ge1 c = search tests

pub returns-else-x-ge1 : goal.returns-else-x-ge1
returns-else-x-ge1 c = search tests
