-- out has the ids of the position so far. Assumes nothing.
use Rattle.std.proofs.Common.{◌≡◌, take}
use Rattle.machine.specs.Rebuild.{at_position}
use Rattle.entries.specs.View.{ids_of}
use Rattle.stripe.proofs.sets.at_position.Given as goal

abbrev pub invariant-loop-id : goal.invariant-loop-id
invariant-loop-id l = ids_of l.out ≡ at_position l.i (take l.id-index l.id-items)
