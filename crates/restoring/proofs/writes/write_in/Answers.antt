-- By the phase. Assumes nothing.
use mathlib.Core.Path.{refl, ◌∙◌}
use mathlib.Core.List.{[], ◌∷◌}
use Rattle.machine.specs.Rebuild.{write, writes}
use Rattle.rebuild.proofs.Phases.{others, out-of-phase}
use Rattle.rebuild.proofs.Stepping.{steps-refused}
use Rattle.rebuild.proofs.Tabled.{tabled-past}
use Rattle.restoring.proofs.writes.write_in.Goals as goal

pub write_node-requires : goal.write_node-requires
write_node-requires c = (c.requires.0, c.in-Writing.is, c.requires.1)

pub returns-in-Writing : goal.returns-in-Writing
returns-in-Writing c = c.write_node.ensures

pub returns-in_default : goal.returns-in_default
unfolding write others
returns-in_default c nodes t = let a = c.args in
    steps-refused t c.refused.ensures
    (out-of-phase writes (0 ∷ 1 ∷ 2 ∷ 4 ∷ 5 ∷ []) a.client _ c.in_default.in_default-own.keys2 refl
    ∙ tabled-past a.z a.c a.seen a.client a.blocks.now a.spare.now t.sees c.requires.0 c.requires.1 _)
