-- By cases of node j's opmode. Assumes nothing.
use Rattle.std.proofs.Common.{take, arith, rules, tests, ◌∙◌}
use Rattle.std.proofs.lemmas.Iterator.{YieldsList-from_slice}
use Rattle.std.proofs.lemmas.Iterator.Search.{any_from_yields_List}
use Rattle.code.specs.Decode.{has}
use Rattle.code.specs.View.{node_set_of}
use Rattle.stripe.proofs.NodeLists.{eighteen, some-node}
use Rattle.stripe.proofs.nodes.Nodes.is_resumed.Goals as goal

pub returns-in-Norm : goal.returns-in-Norm
returns-in-Norm c = let a = c.args in
    rw (← c.get.ensures a.n (omega arith), c.in-Norm.is)
    (any_from_yields_List (λ r. has (node_set_of r.rset) a.j) _ _ _ c.any.ensures.ran (YieldsList-from_slice (take a.n a.self.items) cc)
    (λ x b q k. search (rules, tests))
    ∙ some-node (λ y. has y.rset a.j) a.n a.self (omega (arith, eighteen a.self _ c.well_formed.0)))

pub returns-in-Recons : goal.returns-in-Recons
returns-in-Recons c = rw (← c.get.ensures c.args.n (omega arith), c.in-Recons.is)

pub returns-in-Init : goal.returns-in-Init
returns-in-Init c = rw (← c.get.ensures c.args.n (omega arith), c.in-Init.is)
