-- Each of the n records. Assumes nothing.
use Rattle.std.proofs.Common.{take, arith, rules, tests, ◌∙◌}
use Rattle.std.proofs.lemmas.Iterator.{YieldsList-from_slice}
use Rattle.std.proofs.lemmas.Iterator.Search.{all_from_yields_List}
use Rattle.records.specs.Node.{node_within}
use Rattle.records.specs.View.{node_of}
use Rattle.stripe.proofs.NodeLists.{eighteen, every-node}
use Rattle.stripe.proofs.nodes.Nodes.are_within.Goals as goal

pub returns : goal.returns
returns c = let a = c.args in
    all_from_yields_List (λ r. node_within a.z (node_of r)) _ _ _ c.all.ensures.ran (YieldsList-from_slice (take a.z.n a.self.items) cc)
    (λ x b q k. search (rules, tests))
    ∙ every-node (node_within a.z) a.z.n a.self (omega (arith, eighteen a.self _ c.well_formed.0))
