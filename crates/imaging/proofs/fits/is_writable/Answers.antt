-- The tests, in order. Assumes nothing.
use mathlib.Core.Path.{sym, ◌∙◌}
use Rattle.imaging.proofs.Writable.{writable-tests}
use Rattle.imaging.proofs.fits.is_writable.Goals as goal

pub are_records_within-requires : goal.are_records_within-requires
are_records_within-requires c = sym c.within.ensures ∙ c.if-within.true

pub are_tables_within-requires : goal.are_tables_within-requires
are_tables_within-requires c = sym c.within.ensures ∙ c.if-within.true

pub returns-then-are_records_within : goal.returns-then-are_records_within
returns-then-are_records_within c = let a = c.args in
    rw (
      writable-tests a.z a.stripe a.blocks.now a.spare.now a.differences.now,
      ← c.within.ensures,
      c.if-within.true,
      ← c.are_records_within.ensures,
      c.if-are_records_within.true,
    ) c.are_tables_within.ensures

pub returns-else-are_records_within : goal.returns-else-are_records_within
returns-else-are_records_within c = let a = c.args in
    rw (
      writable-tests a.z a.stripe a.blocks.now a.spare.now a.differences.now,
      ← c.within.ensures,
      c.if-within.true,
      ← c.are_records_within.ensures,
      c.if-are_records_within.false,
    )

pub returns-else-within : goal.returns-else-within
returns-else-within c = let a = c.args in
    rw (writable-tests a.z a.stripe a.blocks.now a.spare.now a.differences.now, ← c.within.ensures, c.if-within.false)
