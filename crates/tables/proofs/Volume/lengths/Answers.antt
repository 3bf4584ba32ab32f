-- The products fit. Assumes nothing.
use native.Mathlib.Omega.{arith}
use borrow.Author.Tests.{not-true, not-false}
use Rattle.tables.proofs.Products.{nodes-length, clients-length, blocks-length, differences_length, value-length}
use Rattle.tables.proofs.Volume.lengths.Goals as goal

pub returns-then-not-within : goal.returns-then-not-within
returns-then-not-within c = rw (← c.within.ensures, not-true c.within.result c.if-not-within.true-raw)

pub overflow_mul-result : goal.overflow_mul-result
overflow_mul-result c = omega (arith, nodes-length _ _ c.within.ensures c.if-not-within.false-raw)

pub overflow_mul-result-2 : goal.overflow_mul-result-2
overflow_mul-result-2 c = omega (arith, clients-length _ _ c.within.ensures c.if-not-within.false-raw)

pub overflow_mul-result-3 : goal.overflow_mul-result-3
overflow_mul-result-3 c = omega (arith, blocks-length _ _ c.within.ensures c.if-not-within.false-raw _ c.table_blocks.ensures)

pub overflow_mul-result-4 : goal.overflow_mul-result-4
overflow_mul-result-4 c = omega (arith, differences_length _ _ c.within.ensures c.if-not-within.false-raw _ c.table_differences.ensures)

pub overflow_mul-result-5 : goal.overflow_mul-result-5
overflow_mul-result-5 c = omega (arith, value-length _ _ c.within.ensures c.if-not-within.false-raw)

pub returns : goal.returns
returns c = rw (
  c.table_differences.ensures,
  c.table_blocks.ensures,
  ← c.within.ensures,
  not-false c.within.result c.if-not-within.false-raw,
)
