-- By the phase. Assumes nothing.
use mathlib.Core.Path.{refl}
use mathlib.Core.List.{[], ◌∷◌}
use borrow.Author.Rules.{rules}
use Rattle.machine.specs.Rebuild.{settle, settles}
use Rattle.rebuild.proofs.Phases.{others, out-of-phase}
use Rattle.rebuild.proofs.Stepping.{steps-refused, steps-past}
use Rattle.restoring.proofs.settles.settle_in.Goals as goal

pub settle_node-requires : goal.settle_node-requires
unfolding settle others
settle_node-requires c = (c.requires, c.in-Settling.is)

pub refused-requires : goal.refused-requires
unfolding settle others
refused-requires c = search rules

pub returns-in-Settling : goal.returns-in-Settling
unfolding settle others
returns-in-Settling c = c.settle_node.ensures

pub returns-in_default : goal.returns-in_default
unfolding settle others
returns-in_default c nodes blocks spare t = steps-past t c.requires (steps-refused t c.refused.ensures (out-of-phase settles (0 ∷ 1 ∷ 2 ∷ 3 ∷ 5 ∷ []) c.args.client _ c.in_default.in_default-own.keys2 refl))
