-- The own node stays, then all that c held becomes EXP. Assumes nothing.
use mathlib.Core.Path.{refl}
use Rattle.rebuild.proofs.Stepping.{steps-left}
use Rattle.rebuild.proofs.Stepped.lost.Goals as goal

pub returns : goal.returns
returns c nodes blocks spare t = steps-left t refl (rw (c.expire.ensures, c.end_rebuild.ensures)) _
