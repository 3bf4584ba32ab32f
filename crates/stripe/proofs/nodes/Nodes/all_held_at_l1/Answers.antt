-- Each of the n records. Assumes nothing.
use Rattle.std.proofs.Common.{take, arith, rules, tests, ◌∙◌}
use Rattle.std.proofs.lemmas.Iterator.{YieldsList-from_slice}
use Rattle.std.proofs.lemmas.Iterator.Search.{all_from_yields_List}
use Rattle.records.specs.Node.{held_at_l1}
use Rattle.records.specs.View.{node_of}
use Rattle.stripe.proofs.NodeLists.{eighteen, every-node}
use Rattle.stripe.proofs.nodes.Nodes.all_held_at_l1.Goals as goal

pub returns : goal.returns
returns c = let a = c.args in
    all_from_yields_List (λ r. held_at_l1 a.c (node_of r)) _ _ _ c.all.ensures.ran (YieldsList-from_slice (take a.n a.self.items) cc)
    (λ x b q k. search (rules, tests))
    ∙ every-node (held_at_l1 a.c) a.n a.self (omega (arith, eighteen a.self _ c.well_formed.0))
