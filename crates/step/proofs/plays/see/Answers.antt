-- By the call: what is seen of all nodes is not asked of a call that looks at one. Assumes nothing.
use mathlib.Core.Path.{sym, ◌∙◌}
use Rattle.step.proofs.Playing.{never}
use Rattle.step.proofs.plays.see.Goals as goal

pub returns-then-looks_at_all : goal.returns-then-looks_at_all
returns-then-looks_at_all c looks within = rw (← c.caller.ensures) (c.see.ensures within)

pub returns-else-looks_at_all : goal.returns-else-looks_at_all
returns-else-looks_at_all c looks within = never (sym c.if-looks_at_all.false ∙ c.looks_at_all.ensures ∙ looks)
