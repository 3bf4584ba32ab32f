-- The tests, in order. Assumes nothing.
use native.Mathlib.Omega.{arith}
use Rattle.entries.proofs.Tests.{tests}
use Rattle.records.proofs.Limits.{nodes-few}
use Rattle.records.proofs.ClientRecord.are_lists_within.Goals as goal

pub overflow_mul-z : goal.overflow_mul-z
overflow_mul-z c = record { fits = omega (arith, nodes-few c.args.z c.requires) }

pub returns-then-self-z : goal.returns-then-self-z
returns-then-self-z c = search tests

pub returns-else-self-z : goal.returns-else-self-z
returns-else-self-z c = search tests

pub returns-else-is_within-2 : goal.returns-else-is_within-2
returns-else-is_within-2 c = search tests

pub returns-else-is_within : goal.returns-else-is_within
returns-else-is_within c = search tests
