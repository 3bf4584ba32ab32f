-- Some entry. Assumes nothing.
use Rattle.std.proofs.Common.{rules, tests, ◌∙◌}
use Rattle.entries.specs.Entries.{same_id}
use Rattle.entries.specs.View.{entry_of, blank_entry}
use Rattle.entries.proofs.Lists.{some-entry, listed-search}
use Rattle.entries.proofs.node_entries.Entries.has.Goals as goal

pub returns : goal.returns
returns c = let a = c.args in
    c.any.ensures (λ e. same_id (entry_of e).id a.id) (λ x b q. search (rules, tests)) blank_entry ∙ some-entry a.self (listed-search a.id)
