-- `coding::recovering::fill_rows` meets its contract: after j turns the weights of the first j nodes are there. Assumes nothing.
use mathlib.Core.Path.{◌≡◌}
use lib.ListN.{length}
use Rattle.coding.proofs.Restored.{RowsOf}
use Rattle.coding.proofs.recovering.fill_rows.Given as goal

abbrev pub invariant-loop-j : goal.invariant-loop-j
invariant-loop-j l = (length l.rows ≡ 3072) × RowsOf l.nodes l.j l.rows
