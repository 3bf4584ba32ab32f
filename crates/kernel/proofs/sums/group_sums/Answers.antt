-- `kernel::sums::group_sums` meets its contract. Assumes nothing.
use mathlib.Core.Path.{◌∙◌}
use Rattle.kernel.proofs.Tiles.{group-is}
use Rattle.kernel.proofs.sums.group_sums.Goals as goal

pub returns : goal.returns
returns c = c.sums.ensures
    ∙ group-is _ _ _ _ _ _ _ _ _ c.source-w.ensures c.source-x.ensures c.source-y.ensures c.source-z.ensures
