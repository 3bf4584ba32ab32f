-- By cases of the phase. Assumes nothing.
use mathlib.Core.Path.{◌∙◌}
use Rattle.entries.proofs.Tests.{tests}
use Rattle.records.proofs.Clients.{locking-within}
use Rattle.records.proofs.Phase.is_within.Goals as goal

pub returns-in-NoRebuild : goal.returns-in-NoRebuild
returns-in-NoRebuild c = rw c.in-NoRebuild.is

pub returns-then-x-ge1 : goal.returns-then-x-ge1
returns-then-x-ge1 c = rw c.in-Locking.is (search tests ∙ locking-within c.args.z c.in-Locking.x c.in-Locking.field-1)

pub returns-else-x-ge1 : goal.returns-else-x-ge1
returns-else-x-ge1 c = rw c.in-Locking.is (search tests ∙ locking-within c.args.z c.in-Locking.x c.in-Locking.field-1)

pub returns-then-j-eq0 : goal.returns-then-j-eq0
returns-then-j-eq0 c = rw c.in-Picking.is (search tests)

pub returns-else-j-eq0 : goal.returns-else-j-eq0
returns-else-j-eq0 c = rw c.in-Picking.is (search tests)

pub returns-then-is_within : goal.returns-then-is_within
returns-then-is_within c = rw c.in-Writing.is (search tests)

pub returns-else-is_within : goal.returns-else-is_within
returns-else-is_within c = rw c.in-Writing.is (search tests)

pub returns-else-is_node : goal.returns-else-is_node
returns-else-is_node c = rw c.in-Writing.is (search tests)

pub returns-then-is_node-2 : goal.returns-then-is_node-2
returns-then-is_node-2 c = rw c.in-Settling.is (search tests)

pub returns-else-is_node-2 : goal.returns-else-is_node-2
returns-else-is_node-2 c = rw c.in-Settling.is (search tests)

pub returns-in-Unlocking : goal.returns-in-Unlocking
returns-in-Unlocking c = rw c.in-Unlocking.is (search tests)
