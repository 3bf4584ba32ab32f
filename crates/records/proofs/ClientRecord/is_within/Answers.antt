-- The tests, in order. Assumes nothing.
use Rattle.entries.proofs.Tests.{same-as, tests}
use Rattle.records.proofs.Limits.{client-tests}
use Rattle.records.proofs.ClientRecord.is_within.Goals as goal

pub returns-then-is_within : goal.returns-then-is_within
returns-then-is_within c = same-as (client-tests _ _) (search tests)

pub returns-else-is_within : goal.returns-else-is_within
returns-else-is_within c = same-as (client-tests _ _) (search tests)

pub returns-else-is_hand_within : goal.returns-else-is_hand_within
returns-else-is_hand_within c = same-as (client-tests _ _) (search tests)
