-- The tests, in order. Assumes nothing.
use mathlib.Core.Bool.{and_assoc}
use Rattle.imaging.proofs.fits.are_tables_within.Goals as goal

pub returns-then-are_tables : goal.returns-then-are_tables
returns-then-are_tables c = rw (← and_assoc _ _ _, ← c.are_tables.ensures, c.if-are_tables.true) c.are_blocks.ensures

pub returns-else-are_tables : goal.returns-else-are_tables
returns-else-are_tables c = rw (← and_assoc _ _ _, ← c.are_tables.ensures, c.if-are_tables.false)
