-- `code::nodes::NodeSet::with` meets its contract. Assumes nothing.
use mathlib.Core.Path.{refl}
use native.Mathlib.Omega.{arith}
use Rattle.code.proofs.Members.{with_none, with-one}
use Rattle.code.proofs.nodes.NodeSet.with.Goals as goal

pub returns-then-j-eq0 : goal.returns-then-j-eq0
returns-then-j-eq0 c = with_none c.args.self c.args.j (λ i l1 l18 e. omega arith)

pub returns : goal.returns
returns c = let a = c.args in with-one a.self a.j (omega arith) (omega arith) refl
