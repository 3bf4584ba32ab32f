-- `coding::set_of` meets its contract: after i turns the set has the first i nodes. Assumes nothing.
use mathlib.Core.Path.{◌≡◌}
use lib.ListN.{take}
use Rattle.code.specs.Calls.{given_set}
use Rattle.code.specs.View.{node_set_of}
use Rattle.coding.proofs.set_of.Given as goal

abbrev pub invariant-loop-j : goal.invariant-loop-j
invariant-loop-j l = node_set_of l.set ≡ given_set (take l.j-index l.nodes)
