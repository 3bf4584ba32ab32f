-- One size at a time. Assumes nothing.
use mathlib.Core.Path.{◌≡◌}
use lib.ListN.{take}
use Rattle.groups.specs.View.{group_sizes, kept}
use Rattle.groups.proofs.Groups.of.Given as goal

abbrev pub invariant-loop-size : goal.invariant-loop-size
invariant-loop-size l = group_sizes l.groups ≡ kept (take l.size-index l.sizes)
