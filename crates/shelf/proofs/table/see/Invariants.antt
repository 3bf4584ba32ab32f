-- The nodes before the index have been seen.
use Rattle.std.proofs.Common.{◌≡◌}
use Rattle.shelf.proofs.Looked.{looked}
use Rattle.shelf.proofs.table.see.Given as goal

abbrev pub invariant-loop-node : goal.invariant-loop-node
invariant-loop-node l = l.seen ≡ looked l.z l.c l.nodes l.node-index
