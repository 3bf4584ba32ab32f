-- What is seen of all nodes, if they are looked at. Assumes nothing.
use mathlib.Core.Path.{sym, ◌∙◌}
use Rattle.step.proofs.Playing.{never}
use Rattle.step.proofs.reads.see.Goals as goal

pub returns-then-has_picked : goal.returns-then-has_picked
returns-then-has_picked c picked within = c.see.ensures within

pub returns-else-has_picked : goal.returns-else-has_picked
returns-else-has_picked c picked = never (sym c.if-has_picked.false ∙ c.has_picked.ensures ∙ picked)
