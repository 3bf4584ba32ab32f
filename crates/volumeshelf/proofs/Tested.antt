-- What a test of the volume answers: it passes, or a refusal. Assumes nothing.
use mathlib.Core.Bool.{Bool, true, false}
use Rattle.std.specs.Prelude.{Err, Ok, Result}
use Rattle.records.specs.declared.Refusal.{Refusal}
use Rattle.records.specs.declared.Refusal.TheVariants.{OutOfLimits}

abbrev pub passes : Result (Unit {0}) Refusal → Bool
passes (Ok x) = true
passes (Err why) = false

abbrev pub refusal_of : Result (Unit {0}) Refusal → Refusal
refusal_of (Ok x) = OutOfLimits
refusal_of (Err why) = why
