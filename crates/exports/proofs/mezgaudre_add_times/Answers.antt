-- `exports::mezgaudre_add_times` meets its contract. Assumes nothing.
use borrow.Author.Tests.{eq-eqb, ne_eqb}
use Rattle.exports.proofs.mezgaudre_add_times.Goals as goal

pub returns-then-dst-src : goal.returns-then-dst-src
returns-then-dst-src c = rw (ne_eqb _ _ c.if-dst-src.true)

pub returns : goal.returns
returns c = rw (eq-eqb _ _ c.if-dst-src.false, c.add_times.ensures)
