use Rattle.std.proofs.Common.{◌-◌, ◌+◌, ◌≤◌}
use Rattle.shelfrun.specs.Feeding.{Keeps}
use Rattle.shelfrun.proofs.Played.{PlayedWithin}
use Rattle.shelfrun.proofs.run.Given as goal

abbrev pub invariant-loop-room : goal.invariant-loop-room
invariant-loop-room g l =
    (l.shelf.lines + l.room ≤ 18446744073709551614)
    × PlayedWithin (g.R.Read.remaining l.fn.from) (g.R.Read.remaining l.from) (g.W.Write.contents l.fn.to) (g.W.Write.contents l.to)
    (Keeps l.shelf l.blocks l.spare l.differences) l.room

abbrev pub decreases-loop-room : goal.decreases-loop-room
decreases-loop-room g l = l.room - 1024
