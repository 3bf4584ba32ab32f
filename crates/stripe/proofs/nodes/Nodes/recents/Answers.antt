-- Items 0 to i are the recent ids of nodes 1 to i. Assumes nothing.
use native.Mathlib.Omega.{arith}
use Rattle.stripe.proofs.Loops.{store-start, store-on}
use Rattle.stripe.proofs.NodeLists.{node-item}
use Rattle.stripe.proofs.nodes.Nodes.recents.Goals as goal

pub loop-i-init : goal.loop-i-init
loop-i-init c = store-start (omega arith) (omega arith)

pub recent_ids-requires : goal.recent_ids-requires
recent_ids-requires c = (omega arith, (c.requires.1, c.requires.1.few c.loop-i.i (omega arith)))

pub loop-i-preserved : goal.loop-i-preserved
loop-i-preserved c = let a = c.args in
    store-on c.loop-i.invariant c.recent_ids.result (omega arith) (rw (node-item a.n a.self c.loop-i.i (omega arith)) c.recent_ids.ensures)

pub returns : goal.returns
returns c = record { nodes = c.requires.0; counted = c.requires.1; ids = λ i h. c.loop-i.invariant.done i (omega arith) (omega arith) }
