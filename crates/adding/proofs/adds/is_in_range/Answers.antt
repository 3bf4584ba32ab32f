-- The two tests, in order. Assumes nothing.
use Rattle.entries.proofs.Tests.{tests}
use Rattle.adding.proofs.adds.is_in_range.Goals as goal

pub returns-then-is_client : goal.returns-then-is_client
returns-then-is_client c = search tests

pub returns-else-is_client : goal.returns-else-is_client
returns-else-is_client c = search tests
