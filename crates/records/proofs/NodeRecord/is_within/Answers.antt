-- The tests, in order. Assumes nothing.
use borrow.Author.Rules.{rules}
use Rattle.entries.proofs.Tests.{tests}
use Rattle.records.specs.Node.{node_within}
use Rattle.records.proofs.NodeRecord.is_within.Goals as goal

pub is_holder_within-requires : goal.is_holder_within-requires
unfolding node_within
is_holder_within-requires c = search rules

pub is_within-requires : goal.is_within-requires
unfolding node_within
is_within-requires c = search rules

pub is_within-requires-then-is_within : goal.is_within-requires-then-is_within
unfolding node_within
is_within-requires-then-is_within c = search rules

pub returns-then-is_within : goal.returns-then-is_within
unfolding node_within
returns-then-is_within c = search tests

pub returns-else-is_within : goal.returns-else-is_within
unfolding node_within
returns-else-is_within c = search tests

pub returns-else-self-le-EPOCHS : goal.returns-else-self-le-EPOCHS
unfolding node_within
returns-else-self-le-EPOCHS c = search tests

pub returns-else-is_holder_within : goal.returns-else-is_holder_within
unfolding node_within
returns-else-is_holder_within c = search tests
