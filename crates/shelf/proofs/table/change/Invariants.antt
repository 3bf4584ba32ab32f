-- The nodes before i have been changed.
use Rattle.shelf.proofs.Changed.{Changed}
use Rattle.shelf.proofs.table.change.Given as goal

abbrev pub invariant-loop-i : goal.invariant-loop-i
invariant-loop-i l = Changed l.change l.initial.i l.initial.nodes l.i l.nodes
