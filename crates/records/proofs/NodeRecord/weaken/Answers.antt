-- Refused if the node is RECONS, then if it is not held. Assumes nothing.
use Rattle.entries.proofs.Tests.{tests}
use Rattle.records.proofs.Steps.{meets-refused, meets-accepted}
use Rattle.records.proofs.NodeRecord.weaken.Goals as goal

pub returns-then-is_recons : goal.returns-then-is_recons
returns-then-is_recons c = meets-refused c.refused.ensures (search tests)

pub returns-then-not-held_by : goal.returns-then-not-held_by
returns-then-not-held_by c = meets-refused c.refused-then-not-held_by.ensures (search tests)

pub returns : goal.returns
returns c = meets-accepted c.accepted.ensures (search tests) c.weakened_by.ensures
