-- The numbers of the refusals are from 1 up, and 1 is that of one alone. Assumes nothing.
use mathlib.Core.Path.{◌≡◌, refl}
use Prim.Native.Nat.{◌≤◌}
use native.Mathlib.Omega.{arith}
use Rattle.records.specs.declared.Refusal.{Refusal}
use Rattle.records.specs.declared.Refusal.TheVariants.{OutOfLimits, OutOfRange, OutOfPhase, WrongMode, OldEpoch, BeforePrevious, Full, Exhausted, Locked, NotHeld, TooFew, NoInverse}
use Rattle.records.specs.Refusals.{number_of}

pub from_one : (why : Refusal) → 1 ≤ number_of why
from_one OutOfLimits = omega arith
from_one OutOfRange = omega arith
from_one OutOfPhase = omega arith
from_one (WrongMode opmode lmode) = omega arith
from_one (OldEpoch epoch) = omega arith
from_one (BeforePrevious id) = omega arith
from_one Full = omega arith
from_one Exhausted = omega arith
from_one Locked = omega arith
from_one NotHeld = omega arith
from_one (TooFew size) = omega arith
from_one NoInverse = omega arith

pub why-one : (why : Refusal) → number_of why ≡ 1 → why ≡ OutOfLimits
why-one OutOfLimits e = refl
why-one OutOfRange e = absurd (omega arith)
why-one OutOfPhase e = absurd (omega arith)
why-one (WrongMode opmode lmode) e = absurd (omega arith)
why-one (OldEpoch epoch) e = absurd (omega arith)
why-one (BeforePrevious id) e = absurd (omega arith)
why-one Full e = absurd (omega arith)
why-one Exhausted e = absurd (omega arith)
why-one Locked e = absurd (omega arith)
why-one NotHeld e = absurd (omega arith)
why-one (TooFew size) e = absurd (omega arith)
why-one NoInverse e = absurd (omega arith)
