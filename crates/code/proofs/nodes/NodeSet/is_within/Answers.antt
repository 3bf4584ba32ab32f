-- `code::nodes::NodeSet::is_within` meets its contract. Assumes nothing.
use mathlib.Core.Path.{sym, ◌∙◌}
use native.Mathlib.Omega.{arith}
use borrow.Author.Tests.{le-leb}
use Rattle.code.proofs.Members.{within_all, within-some}
use Rattle.code.proofs.nodes.NodeSet.is_within.Goals as goal

pub returns-then-n-ge-NODES : goal.returns-then-n-ge-NODES
returns-then-n-ge-NODES c = le-leb 18 c.args.n (omega arith) ∙ sym (within_all c.args.self c.args.n (omega arith))

pub returns-else-n-ge-NODES : goal.returns-else-n-ge-NODES
returns-else-n-ge-NODES c = let a = c.args in sym (within-some a.self a.n (omega arith))
