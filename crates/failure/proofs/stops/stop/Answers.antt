-- By the entrance's answer. Assumes nothing.
use mathlib.Core.Path.{refl}
use Rattle.machine.specs.Failure.{stop}
use Rattle.rebuild.proofs.Stepping.{steps-left, steps-turned, steps_on}
use Rattle.failure.proofs.stops.stop.Goals as goal

pub returns-in-Err : goal.returns-in-Err
unfolding stop
returns-in-Err c nodes blocks spare t = steps-turned t c.entrance.ensures _ c.in-Err.is c.refused.ensures

pub returns-in-Ok : goal.returns-in-Ok
unfolding stop
returns-in-Ok c nodes blocks spare t = steps_on t c.entrance.ensures c.in-Ok.is
    (steps-left t refl (rw (c.expire.ensures, c.stop.ensures)) _)
