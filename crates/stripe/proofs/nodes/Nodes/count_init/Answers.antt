-- The number of the records that pass the test. Assumes nothing.
use Rattle.std.proofs.Common.{take, arith, rules, tests, ◌∙◌}
use Rattle.std.proofs.lemmas.Iterator.{YieldsList-from_slice}
use Rattle.std.proofs.lemmas.Iterator.Consumers.{YieldsList-from_filter, count_from_yields_List}
use Rattle.std.proofs.lemmas.List.Sums.{length-filter}
use Rattle.records.specs.Node.{is_init}
use Rattle.stripe.proofs.NodeLists.{eighteen, init-nodes}
use Rattle.stripe.proofs.nodes.Nodes.count_init.Goals as goal

pub returns : goal.returns
returns c = let a = c.args in
    count_from_yields_List c.filter.result _ c.count.ensures.ran
    (YieldsList-from_filter _ (λ r. is_init r.opmode) (YieldsList-from_slice (take a.n a.self.items) cc) c.filter.ensures.closure (λ x b q k. search (rules, tests)))
    ∙ length-filter (λ r. is_init r.opmode) (take a.n a.self.items)
    ∙ init-nodes a.n a.self (omega (arith, eighteen a.self _ c.well_formed.0))
