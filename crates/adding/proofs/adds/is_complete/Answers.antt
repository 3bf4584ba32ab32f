-- The two tests, in order. Assumes nothing.
use Rattle.entries.proofs.Tests.{tests}
use Rattle.adding.proofs.adds.is_complete.Goals as goal

pub returns-then-contains : goal.returns-then-contains
returns-then-contains c = search tests

pub returns-else-contains : goal.returns-else-contains
returns-else-contains c = search tests
