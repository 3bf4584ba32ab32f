-- Refused at 16 entries, by the count. Assumes nothing.
use borrow.Author.Tests.{le-leb, lt-leb}
use Rattle.entries.specs.Entries.{entry_limit}
use Rattle.entries.proofs.Lists.{entries-count}
use Rattle.records.proofs.Steps.{meets-refused, meets-accepted}
use Rattle.records.proofs.NodeRecord.enter.Goals as goal

pub returns-then-self-ge-LIMIT : goal.returns-then-self-ge-LIMIT
returns-then-self-ge-LIMIT c = let s = c.args.self.entries in
    meets-refused c.refused.ensures (rw (entries-count s, le-leb entry_limit s.count c.if-self-ge-LIMIT.true))

pub returns : goal.returns
returns c = let s = c.args.self.entries in
    meets-accepted c.accepted.ensures (rw (entries-count s, lt-leb entry_limit s.count c.if-self-ge-LIMIT.false)) (rw (c.with_entries.ensures, c.enter.ensures))
