-- `image::length` meets its contract. Assumes nothing.
use mathlib.Core.Path.{sym, ap, ◌∙◌}
use Rattle.image.specs.declared.Places.{Places}
use Rattle.image.proofs.length.Goals as goal

pub of-requires : goal.of-requires
of-requires c = sym c.within.ensures ∙ c.if-within.true

pub returns-then-within : goal.returns-then-within
returns-then-within c = rw (← c.within.ensures, c.if-within.true) (ap (λ (p : Places). p.end) c.of.ensures)

pub returns-else-within : goal.returns-else-within
returns-else-within c = rw (← c.within.ensures, c.if-within.false)
