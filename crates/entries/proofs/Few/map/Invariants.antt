-- The first i items are changed. Assumes nothing.
use Rattle.std.proofs.Common.{◌≡◌}
use Rattle.entries.proofs.Lists.{Changed}
use Rattle.entries.proofs.Few.map.Given as goal

abbrev pub invariant-loop-i : goal.invariant-loop-i
invariant-loop-i g l = (l.self.count ≡ l.initial.self.count) × Changed (goal.F-post g l.change) l.initial.self.items l.self.items l.i
