-- The tests, in order; the count is the list's length. Assumes nothing.
use borrow.Author.Tests.{le-leb}
use Rattle.entries.proofs.Lists.{ids-count}
use Rattle.entries.proofs.Tests.{tests}
use Rattle.records.specs.Node.{epoch_limit}
use Rattle.records.proofs.Write.is_within.Goals as goal

pub returns-then-is_within-2 : goal.returns-then-is_within-2
returns-then-is_within-2 c = let a = c.args in
    rw (
      ← c.is_within.ensures,
      c.if-is_within.true,
      ← c.is_previous_within.ensures,
      c.if-is_previous_within.true,
      le-leb a.self.epoch.0 epoch_limit c.if-self-le-EPOCHS.true,
      ← c.is_within-then-self-le-EPOCHS.ensures,
      c.if-is_within-2.true,
      ids-count a.finished,
    )

pub returns-else-is_within-2 : goal.returns-else-is_within-2
returns-else-is_within-2 c = search tests

pub returns-else-self-le-EPOCHS : goal.returns-else-self-le-EPOCHS
returns-else-self-le-EPOCHS c = search tests

pub returns-else-is_previous_within : goal.returns-else-is_previous_within
returns-else-is_previous_within c = search tests

pub returns-else-is_within : goal.returns-else-is_within
returns-else-is_within c = search tests
