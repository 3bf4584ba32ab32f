-- Some entry. Assumes nothing.
use Rattle.std.proofs.Common.{rules, tests, leb, ◌&&◌, ◌∙◌}
use Rattle.entries.specs.Entries.{is_recent, due_age}
use Rattle.entries.specs.View.{entry_of, blank_entry}
use Rattle.entries.proofs.Lists.{some-entry, due-search}
use Rattle.entries.proofs.node_entries.Entries.has_due.Goals as goal

pub returns : goal.returns
returns c = let a = c.args in
    c.any.ensures (λ e. is_recent (entry_of e) && leb due_age (entry_of e).age.0) (λ x b q. search (rules, tests)) blank_entry ∙ some-entry a.self due-search
