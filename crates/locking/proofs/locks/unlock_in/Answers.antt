-- By the phase. Assumes nothing.
use mathlib.Core.Path.{refl}
use mathlib.Core.List.{[], ◌∷◌}
use Rattle.machine.specs.Stripe.{guard}
use Rattle.machine.specs.Rebuild.{unlock, unlocks}
use Rattle.records.specs.Node.{unlocked}
use Rattle.records.proofs.Limits.{nodes-few}
use Rattle.rebuild.proofs.Phases.{others, out-of-phase}
use Rattle.rebuild.proofs.Stepping.{steps-refused, steps-as, steps-past}
use Rattle.locking.proofs.locks.unlock_in.Goals as goal

pub go_on-requires : goal.go_on-requires
go_on-requires c = nodes-few _ c.requires.sizes

pub returns-in-Unlocking : goal.returns-in-Unlocking
unfolding unlock guard
returns-in-Unlocking c nodes blocks spare t = steps-past t c.requires
    (steps-as t (c.go_on.ensures unlocked c.unlock.ensures nodes blocks spare t) (rw c.in-Unlocking.is))

pub returns-in_default : goal.returns-in_default
unfolding unlock others
returns-in_default c nodes blocks spare t = steps-past t c.requires (steps-refused t c.refused.ensures (out-of-phase unlocks (0 ∷ 1 ∷ 2 ∷ 3 ∷ 4 ∷ []) c.args.client _ c.in_default.in_default-own.keys2 refl))
