-- `code::nodes::NodeSet::without` meets its contract. Assumes nothing.
use mathlib.Core.Path.{refl}
use native.Mathlib.Omega.{arith}
use Rattle.code.proofs.Members.{without-none, without-one}
use Rattle.code.proofs.nodes.NodeSet.without.Goals as goal

pub returns-then-j-eq0 : goal.returns-then-j-eq0
returns-then-j-eq0 c = without-none c.args.self c.args.j (λ i l1 l18 e. omega arith)

pub returns : goal.returns
returns c = let a = c.args in without-one a.self a.j (omega arith) (omega arith) refl
