-- Refused where the modes are wrong; else as entering answers. Assumes nothing.
use Rattle.entries.proofs.Tests.{tests}
use Rattle.records.proofs.Steps.{meets-refused, meets-as}
use Rattle.records.proofs.NodeRecord.swap.Goals as goal

pub returns-then-is_free : goal.returns-then-is_free
returns-then-is_free c = meets-as c.enter.ensures (search tests)

pub returns-else-is_free : goal.returns-else-is_free
returns-else-is_free c = meets-refused c.wrong_mode.ensures (search tests)
