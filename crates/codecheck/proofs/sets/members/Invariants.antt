use Rattle.std.proofs.Common.{◌≤◌}
use Rattle.codecheck.proofs.sets.members.Given as goal

abbrev pub invariant-loop-i : goal.invariant-loop-i
invariant-loop-i l = l.size ≤ l.i
