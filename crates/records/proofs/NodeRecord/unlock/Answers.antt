-- Refused if the node is not held. Assumes nothing.
use Rattle.entries.proofs.Tests.{tests}
use Rattle.records.proofs.Steps.{meets-refused, meets-accepted}
use Rattle.records.proofs.NodeRecord.unlock.Goals as goal

pub returns-then-not-held_by : goal.returns-then-not-held_by
returns-then-not-held_by c = meets-refused c.refused.ensures (search tests)

pub returns : goal.returns
returns c = meets-accepted c.accepted.ensures (search tests) c.unlocked.ensures
