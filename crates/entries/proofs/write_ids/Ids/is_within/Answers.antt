-- By the test of the count, which is the list's length. Assumes nothing.
use Rattle.std.proofs.Common.{rules, tests, ◌∙◌}
use borrow.Author.Tests.{le-leb, lt-leb}
use Rattle.entries.specs.Entries.{finished_limit, id_within}
use Rattle.entries.specs.View.{blank_id, ids_of}
use Rattle.entries.proofs.Lists.{ids-count, ids-within}
use Rattle.entries.proofs.write_ids.Ids.is_within.Goals as goal

pub returns-then-self-le-LIMIT : goal.returns-then-self-le-LIMIT
returns-then-self-le-LIMIT c = let a = c.args in
    rw (ids-count a.self, le-leb a.self.count finished_limit c.if-self-le-LIMIT.true)
    (c.all.ensures (id_within a.k a.m) (λ x b q. search (rules, tests)) blank_id ∙ ids-within a.k a.m (ids_of a.self))

pub returns-else-self-le-LIMIT : goal.returns-else-self-le-LIMIT
returns-else-self-le-LIMIT c = let s = c.args.self in rw (ids-count s, lt-leb s.count finished_limit c.if-self-le-LIMIT.false)
