-- Refused where the modes are wrong. Assumes nothing.
use Rattle.entries.proofs.Tests.{tests}
use Rattle.records.proofs.Steps.{meets-refused, meets-accepted}
use Rattle.records.proofs.NodeRecord.discard.Goals as goal

pub returns-then-not-is_free : goal.returns-then-not-is_free
returns-then-not-is_free c = meets-refused c.wrong_mode.ensures (search tests)

pub returns : goal.returns
returns c = meets-accepted c.accepted.ensures (search tests) (rw (c.with_entries.ensures, c.discard.ensures))
