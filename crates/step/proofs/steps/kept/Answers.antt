-- The change is none. Assumes nothing.
use Rattle.step.proofs.steps.kept.Goals as goal

pub returns : goal.returns
returns c = rw c.keep.ensures
