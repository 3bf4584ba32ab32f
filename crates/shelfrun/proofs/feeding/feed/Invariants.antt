-- After i turns the first i bytes are fed. Assumes nothing.
use Rattle.std.proofs.Common.{◌≡◌, ◌+◌, ◌-◌, ◌*◌, ◌≤◌, length, take}
use Rattle.step.specs.View.{stripe_of}
use Rattle.shelfrun.specs.Shelfrun.{sizes}
use Rattle.shelfrun.specs.Feeding.{Feeds, Kept}
use Rattle.shelfrun.proofs.feeding.feed.Given as goal

abbrev pub invariant-loop-i : goal.invariant-loop-i
invariant-loop-i l =
    (l.i ≤ length l.input)
    × (l.lines ≤ l.initial.lines + l.i)
    × (l.end ≤ l.i * 64)
    × (length l.value ≡ 1)
    × Feeds
    (Kept l.initial.lines l.initial.begun l.initial.reader l.initial.value
    (stripe_of sizes l.initial.stripe l.initial.blocks l.initial.spare l.initial.differences))
    (take l.i l.input) (take l.end l.out) (Kept l.lines l.begun l.reader l.value (stripe_of sizes l.stripe l.blocks l.spare l.differences))

abbrev pub decreases-loop-i : goal.decreases-loop-i
decreases-loop-i l = length l.input - l.i
