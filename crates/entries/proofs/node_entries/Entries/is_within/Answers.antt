-- By the test of the count, which is the list's length. Assumes nothing.
use Rattle.std.proofs.Common.{rules, tests, leb, ◌&&◌, ◌∙◌}
use borrow.Author.Tests.{le-leb, lt-leb}
use Rattle.entries.specs.Entries.{entry_limit, age_limit, id_within}
use Rattle.entries.specs.View.{entry_of, blank_entry}
use Rattle.entries.proofs.Lists.{entries-count, entries-within}
use Rattle.entries.proofs.node_entries.Entries.is_within.Goals as goal

pub returns-then-self-le-LIMIT : goal.returns-then-self-le-LIMIT
returns-then-self-le-LIMIT c = let a = c.args in
    rw (entries-count a.self, le-leb a.self.count entry_limit c.if-self-le-LIMIT.true)
    (c.all.ensures (λ e. id_within a.k a.m (entry_of e).id && leb (entry_of e).age.0 age_limit) (λ x b q. search (rules, tests)) blank_entry ∙ entries-within a.self a.k a.m)

pub returns-else-self-le-LIMIT : goal.returns-else-self-le-LIMIT
returns-else-self-le-LIMIT c = let s = c.args.self in rw (entries-count s, lt-leb s.count entry_limit c.if-self-le-LIMIT.false)
