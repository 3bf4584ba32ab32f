-- The tests, in order. Assumes nothing.
use borrow.Author.Tests.{eq-eqb, ne_eqb}
use Rattle.routing.proofs.Request.fits.Goals as goal

pub returns-then-differences-lengths : goal.returns-then-differences-lengths
returns-then-differences-lengths c = rw (
  ← c.lengths-lengths.ensures,
  ← c.within.ensures,
  c.if-within.true,
  eq-eqb _ _ c.if-nodes-lengths.true,
  eq-eqb _ _ c.if-clients-lengths.true,
  eq-eqb _ _ c.if-blocks-lengths.true,
  eq-eqb _ _ c.if-spare-lengths.true,
  eq-eqb _ _ c.if-differences-lengths.true,
)
    c.value_fits.ensures

pub returns-else-differences-lengths : goal.returns-else-differences-lengths
returns-else-differences-lengths c = rw (
  ← c.lengths-lengths.ensures,
  ← c.within.ensures,
  c.if-within.true,
  eq-eqb _ _ c.if-nodes-lengths.true,
  eq-eqb _ _ c.if-clients-lengths.true,
  eq-eqb _ _ c.if-blocks-lengths.true,
  eq-eqb _ _ c.if-spare-lengths.true,
  ne_eqb _ _ c.if-differences-lengths.false,
)

pub returns-else-spare-lengths : goal.returns-else-spare-lengths
returns-else-spare-lengths c = rw (
  ← c.lengths-lengths.ensures,
  ← c.within.ensures,
  c.if-within.true,
  eq-eqb _ _ c.if-nodes-lengths.true,
  eq-eqb _ _ c.if-clients-lengths.true,
  eq-eqb _ _ c.if-blocks-lengths.true,
  ne_eqb _ _ c.if-spare-lengths.false,
)

pub returns-else-blocks-lengths : goal.returns-else-blocks-lengths
returns-else-blocks-lengths c = rw (
  ← c.lengths-lengths.ensures,
  ← c.within.ensures,
  c.if-within.true,
  eq-eqb _ _ c.if-nodes-lengths.true,
  eq-eqb _ _ c.if-clients-lengths.true,
  ne_eqb _ _ c.if-blocks-lengths.false,
)

pub returns-else-clients-lengths : goal.returns-else-clients-lengths
returns-else-clients-lengths c = rw (
  ← c.lengths-lengths.ensures,
  ← c.within.ensures,
  c.if-within.true,
  eq-eqb _ _ c.if-nodes-lengths.true,
  ne_eqb _ _ c.if-clients-lengths.false,
)

pub returns-else-nodes-lengths : goal.returns-else-nodes-lengths
returns-else-nodes-lengths c = rw (
  ← c.lengths-lengths.ensures,
  ← c.within.ensures,
  c.if-within.true,
  ne_eqb _ _ c.if-nodes-lengths.false,
)

pub returns-else-within : goal.returns-else-within
returns-else-within c = rw (← c.within.ensures, c.if-within.false)
