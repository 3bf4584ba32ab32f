-- Eighteen fresh records. Assumes nothing.
use Rattle.step.proofs.Records.{nodes-fresh}
use Rattle.step.proofs.nodes.fresh.Goals as goal

pub returns : goal.returns
returns c = nodes-fresh c.fresh.result c.fresh.ensures
