-- Small numbers, and the limit as it was computed. Assumes nothing.
use native.Mathlib.Omega.{arith}
use borrow.Author.Rules.{rules}
use Rattle.planning.proofs.Pairs.{product_small, raised-limit, raised-small}
use Rattle.planning.proofs.raised_limit.Goals as goal

pub overflow_mul-numerator-3 : goal.overflow_mul-numerator-3
overflow_mul-numerator-3 c = let small = product_small c.args.stops (omega arith) in search rules

pub overflow_add-numerator-2 : goal.overflow_add-numerator-2
overflow_add-numerator-2 c = let small = product_small c.args.stops (omega arith) in search rules

pub overflow_add-result : goal.overflow_add-result
overflow_add-result c = let small = product_small c.args.stops (omega arith) in search rules

pub returns : goal.returns
returns c = let a = c.args in
    (raised-limit a.redundant a.stops (omega arith) (omega arith), raised-small a.redundant a.stops (omega arith) (omega arith))
