-- The tests, in order. Assumes nothing.
use borrow.Author.Tests.{eq-eqb, ne_eqb}
use Rattle.tables.proofs.Renewing.{fresh-fits}
use Rattle.tables.proofs.Volume.fits_fresh.Goals as goal

pub returns-then-clients-lengths : goal.returns-then-clients-lengths
returns-then-clients-lengths c = rw (
  fresh-fits,
  ← c.lengths-lengths.ensures,
  ← c.within.ensures,
  c.if-within.true,
  eq-eqb _ _ c.if-nodes-lengths.true,
  eq-eqb _ _ c.if-clients-lengths.true,
)

pub returns-else-clients-lengths : goal.returns-else-clients-lengths
returns-else-clients-lengths c = rw (
  fresh-fits,
  ← c.lengths-lengths.ensures,
  ← c.within.ensures,
  c.if-within.true,
  eq-eqb _ _ c.if-nodes-lengths.true,
  ne_eqb _ _ c.if-clients-lengths.false,
)

pub returns-else-nodes-lengths : goal.returns-else-nodes-lengths
returns-else-nodes-lengths c = rw (fresh-fits, ← c.lengths-lengths.ensures, ← c.within.ensures, c.if-within.true, ne_eqb _ _ c.if-nodes-lengths.false)

pub returns-else-within : goal.returns-else-within
returns-else-within c = rw (← c.within.ensures, c.if-within.false)
