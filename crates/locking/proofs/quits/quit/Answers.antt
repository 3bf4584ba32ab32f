-- By the tests. Assumes nothing.
use mathlib.Core.Path.{refl}
use Rattle.machine.specs.Stripe.{guard}
use Rattle.machine.specs.Rebuild.{quit}
use Rattle.rebuild.proofs.Stepping.{steps-refused, steps-left, steps-turned, steps_on}
use Rattle.locking.proofs.quits.quit.Goals as goal

pub returns-in-Err : goal.returns-in-Err
unfolding quit
returns-in-Err c nodes blocks spare t = steps-turned t c.entrance.ensures _ c.in-Err.is c.refused.ensures

pub returns-then-has_rebuild : goal.returns-then-has_rebuild
unfolding quit guard
returns-then-has_rebuild c nodes blocks spare t = steps_on t c.entrance.ensures c.in-Ok.is
    (steps-left t refl (rw (c.expire.ensures, c.end_rebuild.ensures, ← c.has_rebuild.ensures, c.if-has_rebuild.true)) _)

pub returns-else-has_rebuild : goal.returns-else-has_rebuild
unfolding quit guard
returns-else-has_rebuild c nodes blocks spare t = steps_on t c.entrance.ensures c.in-Ok.is
    (steps-refused t c.refused-else-has_rebuild.ensures (rw (← c.has_rebuild.ensures, c.if-has_rebuild.false)))
