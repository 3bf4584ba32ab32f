-- What becomes of the nodes, and the client. Assumes nothing.
use Rattle.step.proofs.plays.put_picked.Goals as goal

pub returns : goal.returns
returns c = record { nodes = c.change.ensures; clients = c.set.ensures }
