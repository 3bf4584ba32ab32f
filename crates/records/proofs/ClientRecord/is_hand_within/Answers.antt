-- A list is as long as its count says. Assumes nothing.
use Rattle.entries.proofs.Lists.{ids-count}
use Rattle.records.proofs.ClientRecord.is_hand_within.Goals as goal

pub returns-in-None : goal.returns-in-None
returns-in-None c = rw (c.in-None.is, ids-count c.args.self.finished)
