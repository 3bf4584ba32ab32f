-- By the phase: the node that is left goes to L1. Assumes nothing.
use mathlib.Core.Path.{refl}
use mathlib.Core.List.{[], ◌∷◌}
use borrow.Author.Tests.{ne_eqb}
use Rattle.machine.specs.Stripe.{guard}
use Rattle.machine.specs.Rebuild.{tighten, picks}
use Rattle.records.specs.Node.{locked_by}
use Rattle.records.proofs.Limits.{nodes-few}
use Rattle.rebuild.proofs.Phases.{others, out-of-phase}
use Rattle.rebuild.proofs.Stepping.{steps-refused, steps-as, steps-past}
use Rattle.locking.proofs.locks.tighten_in.Goals as goal

pub go_on-requires : goal.go_on-requires
go_on-requires c = nodes-few _ c.requires.sizes

pub returns-then-j-eq0 : goal.returns-then-j-eq0
unfolding tighten guard
returns-then-j-eq0 c nodes blocks spare t = steps-past t c.requires (steps-refused t c.refused.ensures (rw (c.in-Picking.is, c.if-j-eq0.true)))

pub returns-else-j-eq0 : goal.returns-else-j-eq0
unfolding tighten guard
returns-else-j-eq0 c nodes blocks spare t = steps-past t c.requires
    (steps-as t (c.go_on.ensures (locked_by c.args.c) c.tighten.ensures nodes blocks spare t)
    (rw (c.in-Picking.is, ne_eqb c.in-Picking.j 0 c.if-j-eq0.false)))

pub returns-in_default : goal.returns-in_default
unfolding tighten others
returns-in_default c nodes blocks spare t = steps-past t c.requires (steps-refused t c.refused-in_default.ensures (out-of-phase picks (0 ∷ 1 ∷ 3 ∷ 4 ∷ 5 ∷ []) c.args.client _ c.in_default.in_default-own.keys2 refl))
