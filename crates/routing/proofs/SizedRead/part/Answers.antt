-- The stripe's own parts, and the block in one of them. Assumes nothing.
use mathlib.Core.Path.{◌∙◌}
use Rattle.routing.proofs.SizedRead.part.Goals as goal

pub returns : goal.returns
returns c = c.shown_part.ensures ∙ rw (c.stripe_part-kept.ensures, c.stripe_part-live.ensures, c.table_blocks-each.ensures)
