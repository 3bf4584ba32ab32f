-- Made fresh, or refused.
use Rattle.volumeshelf.proofs.Renewed.{fresh-said}
use Rattle.volumeshelf.proofs.entry.fresh.Goals as goal

pub returns-in-Ok : goal.returns-in-Ok
returns-in-Ok c = fresh-said c.args.nodes.now c.args.clients.now c.args.blocks.now c.args.volume _ _ _ _ c.renew.ensures _ c.in-Ok.is

pub returns-in-Err : goal.returns-in-Err
returns-in-Err c = fresh-said c.args.nodes.now c.args.clients.now c.args.blocks.now c.args.volume _ _ _ _ c.renew.ensures _ c.in-Err.is
