-- Some of the n records. Assumes nothing.
use Rattle.std.proofs.Common.{take, arith, rules, tests, ◌∙◌, ◌&&◌}
use Rattle.std.proofs.lemmas.Iterator.{YieldsList-from_slice}
use Rattle.std.proofs.lemmas.Iterator.Adapters.{serves_from_places}
use Rattle.std.proofs.lemmas.Iterator.Search.{any_from_yields_List}
use Rattle.entries.specs.Entries.{is_old_in}
use Rattle.entries.specs.View.{entries_of}
use Rattle.records.specs.Node.{is_norm}
use Rattle.stripe.proofs.NodeLists.{eighteen, counted-item, some-node}
use Rattle.stripe.proofs.nodes.Nodes.old_somewhere.Goals as goal

pub any-requires-clause-callable : goal.any-requires-clause-callable
any-requires-clause-callable c = let a = c.args in
    serves_from_places (YieldsList-from_slice (take a.n a.self.items) cc) (λ x q k. search (rules, tests)) (λ x i h e. let few = counted-item c.requires.1 i x.now h e in search rules)

pub returns : goal.returns
returns c = let a = c.args in
    any_from_yields_List (λ r. is_norm r.opmode && is_old_in a.id (entries_of r.entries)) _ _ _ c.any.ensures.ran (YieldsList-from_slice (take a.n a.self.items) cc)
    (λ x b q k. search (rules, tests))
    ∙ some-node (λ y. is_norm y.opmode && is_old_in a.id y.entries) a.n a.self (omega (arith, eighteen a.self _ c.well_formed.0))
