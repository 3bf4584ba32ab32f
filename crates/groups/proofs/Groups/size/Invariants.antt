-- One bit at a time: what is left of the groups answers for the whole. Assumes nothing.
use mathlib.Core.Path.{◌≡◌}
use Prim.Native.Nat.{◌≤◌, ◌+◌}
use lib.ListN.{get_or}
use Rattle.groups.specs.View.{sizes_from}
use Rattle.groups.proofs.Groups.size.Given as goal

abbrev pub invariant-loop-w : goal.invariant-loop-w
invariant-loop-w l = (get_or (sizes_from l._w l.ends l.run) l.left 0 ≡ get_or (sizes_from 8 l.initial.ends 0) l.i 0) × (l.run + l._w ≤ 8)
