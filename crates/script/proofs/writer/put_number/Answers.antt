-- The digits are those of the number.
use mathlib.Core.Path.{◌∙◌}
use Rattle.script.proofs.Decimal.{fewest-digits}
use Rattle.script.proofs.Writing.{put_then}
use Rattle.script.proofs.writer.put_number.Goals as goal

pub returns : goal.returns
returns c =
    put_then (rw (c.decimal-k.ensures.digits ∙ fewest-digits c.ranges.n.fits c.decimal-k.ensures.len) at c.put-end.ensures) c.put.ensures
