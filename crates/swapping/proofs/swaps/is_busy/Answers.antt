-- The tests, in order. Assumes nothing.
use Rattle.entries.proofs.Tests.{tests}
use Rattle.swapping.proofs.swaps.is_busy.Goals as goal

pub returns-then-has_write : goal.returns-then-has_write
returns-then-has_write c = search tests

pub returns-else-has_write : goal.returns-else-has_write
returns-else-has_write c = search tests
