-- Some of the n records. Assumes nothing.
use Rattle.std.proofs.Common.{take, arith, rules, tests, ◌∙◌}
use Rattle.std.proofs.lemmas.Iterator.{YieldsList-from_slice}
use Rattle.std.proofs.lemmas.Iterator.Search.{any_from_yields_List}
use Rattle.records.specs.Node.{is_recons}
use Rattle.stripe.proofs.NodeLists.{eighteen, some-node}
use Rattle.stripe.proofs.nodes.Nodes.some_recons.Goals as goal

pub returns : goal.returns
returns c = let a = c.args in
    any_from_yields_List (λ r. is_recons r.opmode) _ _ _ c.any.ensures.ran (YieldsList-from_slice (take a.n a.self.items) cc)
    (λ x b q k. search (rules, tests))
    ∙ some-node (λ y. is_recons y.opmode) a.n a.self (omega (arith, eighteen a.self _ c.well_formed.0))
