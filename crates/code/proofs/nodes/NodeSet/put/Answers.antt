-- `code::nodes::NodeSet::put` meets its contract. Assumes nothing.
use Rattle.code.proofs.nodes.NodeSet.put.Goals as goal

pub returns-then-member : goal.returns-then-member
returns-then-member c = rw c.if-member.true c.with.ensures

pub returns-else-member : goal.returns-else-member
returns-else-member c = rw c.if-member.false c.without.ensures
