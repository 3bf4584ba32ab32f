-- No other node changes. Assumes nothing.
use Rattle.rebuild.proofs.Stepped.answered.Goals as goal

pub returns : goal.returns
returns c = rw c.keep.ensures
