-- What has been changed at the end.
use Rattle.std.proofs.Common.{arith}
use Rattle.std.proofs.Common.{length}
use Rattle.stripe.proofs.Applied.{range-order}
use Rattle.shelf.proofs.Changed.{all-changed, none-changed}
use Rattle.shelf.proofs.table.change.Goals as goal

pub returns-clause-nodes_are : goal.returns-clause-nodes_are
returns-clause-nodes_are c =
    all-changed c.args.change c.args.nodes.now _ c.loop-i.invariant c.first-i.ensures
    (omega (arith, c.first-i.ensures, c.end-i-end.ensures.0, range-order c.args.change (length c.args.nodes.now)))

pub returns-clause-same : goal.returns-clause-same
returns-clause-same c =
    none-changed c.args.change c.args.nodes.now _ c.loop-i.invariant c.first-i.ensures
    (omega (arith, c.first-i.ensures, c.end-i-end.ensures.0, range-order c.args.change (length c.args.nodes.now)))
