-- No node changes. Assumes nothing.
use Rattle.picking.proofs.Picked.refused.Goals as goal

pub returns : goal.returns
returns c = rw c.keep.ensures
