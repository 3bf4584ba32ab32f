-- The tests, in order; then the node tells. Assumes nothing.
use Rattle.basics.proofs.Tests.{and_right}
use Rattle.records.specs.Sizes.{sizes_within}
use Rattle.records.proofs.Limits.{few-entries}
use Rattle.machine.specs.Aging as Aging
use Rattle.calls.proofs.Returns.{holds, guards}
use Rattle.aging.proofs.dues.due.Goals as goal

pub returns-then-not-is_within : goal.returns-then-not-is_within
unfolding Aging.due
returns-then-not-is_within c client blocks differences = record { said = search guards; left = tt }

pub returns-then-not-is_node : goal.returns-then-not-is_node
unfolding Aging.due
returns-then-not-is_node c client blocks differences = record { said = search guards; left = tt }

-- within the limits there are at most 16 entries
pub is_due-is_due-requires : goal.is_due-is_due-requires
is_due-is_due-requires c = let args = c.args in
    few-entries args.z args.node (and_right (sizes_within args.z) _ (holds c.is_within.ensures c.if-not-is_within.false-raw))

pub returns : goal.returns
unfolding Aging.due
returns c client blocks differences = record { said = rw c.is_due-is_due.ensures (search guards); left = tt }
