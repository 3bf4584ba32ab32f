-- By cases of the previous id. Assumes nothing.
use mathlib.Core.Path.{refl}
use Rattle.records.proofs.Steps.{meets-refused}
use Rattle.records.proofs.NodeRecord.enter_after.Goals as goal

pub returns-in-None : goal.returns-in-None
returns-in-None c = rw c.in-None.is c.enter.ensures

pub returns-then-has : goal.returns-then-has
returns-then-has c = rw (c.in-Some.is, ← c.has.ensures, c.if-has.true) c.enter-then-has.ensures

pub returns-else-has : goal.returns-else-has
returns-else-has c = rw (c.in-Some.is, ← c.has.ensures, c.if-has.false) (meets-refused c.refused.ensures refl)
