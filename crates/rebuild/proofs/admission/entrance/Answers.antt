-- The tests, in order. Assumes nothing.
use Rattle.entries.proofs.Tests.{tests}
use Rattle.rebuild.proofs.admission.entrance.Goals as goal

pub returns-then-not-is_within : goal.returns-then-not-is_within
returns-then-not-is_within c = search tests

pub returns-then-is_client : goal.returns-then-is_client
returns-then-is_client c = search tests

pub returns-else-is_client : goal.returns-else-is_client
returns-else-is_client c = search tests
