-- `code::nodes::NodeSet::contains` meets its contract: node j is bit j - 1. Assumes nothing.
use mathlib.Core.Path.{◌≡◌, sym, ◌∙◌}
use native.Mathlib.Omega.{arith}
use borrow.Author.Tests.{lt-leb}
use Rattle.code.specs.View.{node_set_of}
use Rattle.code.proofs.Members.{eighteen, has-bit}
use Rattle.code.proofs.NodeSets.{has-zero, has-past}
use Rattle.code.proofs.nodes.NodeSet.contains.Goals as goal
use Rattle.code.proofs.nodes.NodeSet.contains.Goals.{then-j-ge1, else-j-ge1}

pub returns-then-j-le-NODES : goal.returns-then-j-le-NODES
returns-then-j-le-NODES c = let a = c.args in sym (has-bit a.self a.j (omega arith) (omega arith))

pub returns-else-j-le-NODES : goal.returns-else-j-le-NODES
returns-else-j-le-NODES c = let a = c.args in
    elim c.if-j-ge1.branch [
      | then-j-ge1 w ↦ w.t-4-is ∙ lt-leb a.j 18 (omega arith) ∙ sym (has-past (node_set_of a.self) a.j (omega (arith, eighteen a.self)))
      | else-j-ge1 w ↦ w.t-4-is ∙ lt-leb 1 a.j (omega arith) ∙ (let low : a.j ≡ 0 = omega arith in rw low (sym (has-zero (node_set_of a.self))))
    ]
