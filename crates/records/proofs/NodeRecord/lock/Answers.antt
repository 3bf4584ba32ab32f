-- Refused at L0 and L1. Assumes nothing.
use Rattle.entries.proofs.Tests.{tests}
use Rattle.records.proofs.Steps.{meets-refused, meets-accepted}
use Rattle.records.proofs.NodeRecord.lock.Goals as goal

pub returns-then-is_locked : goal.returns-then-is_locked
returns-then-is_locked c = meets-refused c.refused.ensures (search tests)

pub returns : goal.returns
returns c = meets-accepted c.accepted.ensures (search tests) c.locked_by.ensures
