-- By the tests. Assumes nothing.
use mathlib.Core.Path.{ap}
use mathlib.Core.Bool.{not}
use Rattle.entries.proofs.Tests.{tests, and-on}
use Rattle.stripe.proofs.nodes.Nodes.counts.Goals as goal

pub returns-then-is_recent : goal.returns-then-is_recent
returns-then-is_recent c = and-on _ _ c.is_recent.ensures _ _ c.if-is_recent.true (ap not (rw c.id.ensures at c.old_somewhere.ensures))

pub returns-else-is_recent : goal.returns-else-is_recent
returns-else-is_recent c = search tests
