-- Refused past 16 entries, by the count. Assumes nothing.
use borrow.Author.Tests.{lt-ltb, le-ltb}
use Rattle.entries.specs.Entries.{entry_limit}
use Rattle.entries.proofs.Lists.{entries-count}
use Rattle.records.proofs.Steps.{meets-refused, meets-accepted}
use Rattle.records.proofs.NodeRecord.tick.Goals as goal

pub returns-then-self-gt-LIMIT : goal.returns-then-self-gt-LIMIT
returns-then-self-gt-LIMIT c = let s = c.args.self.entries in
    meets-refused c.refused.ensures (rw (entries-count s, lt-ltb entry_limit s.count c.if-self-gt-LIMIT.true))

pub returns : goal.returns
returns c = let s = c.args.self.entries in
    meets-accepted c.accepted.ensures (rw (entries-count s, le-ltb entry_limit s.count c.if-self-gt-LIMIT.false)) (rw (c.with_entries.ensures, c.tick.ensures))
