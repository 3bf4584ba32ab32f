-- A list of lmodes is as long as its count says. Assumes nothing.
use Rattle.records.proofs.Clients.{lmodes-count}
use Rattle.records.proofs.Phase.node.Goals as goal

pub returns-in-Locking : goal.returns-in-Locking
returns-in-Locking c = rw (c.in-Locking.is, lmodes-count c.in-Locking.x c.in-Locking.field-1)
