-- Eight fresh records. Assumes nothing.
use Rattle.step.proofs.Records.{clients-fresh}
use Rattle.step.proofs.clients.Clients.fresh.Goals as goal

pub returns : goal.returns
returns c = clients-fresh c.fresh.result c.fresh.ensures
