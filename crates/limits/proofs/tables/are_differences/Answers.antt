-- Within the limits the product fits. Assumes nothing.
use native.Mathlib.Omega.{arith}
use Rattle.code.proofs.LimitLaws.{small-table}
use Rattle.limits.proofs.Limits.{code-sizes, clients-few}
use Rattle.limits.proofs.tables.are_differences.Goals as goal

pub overflow_mul-result : goal.overflow_mul-result
overflow_mul-result c = let z = c.args.z in
    let sizes = code-sizes z c.requires in
    let few = clients-few z c.requires in
    record { fits = omega (arith, small-table z.m z.b (omega arith) (omega arith)) }
