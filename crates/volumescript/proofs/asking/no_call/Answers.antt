-- By the parts. Assumes nothing.
use Rattle.volumescript.proofs.asking.no_call.Goals as goal

pub returns : goal.returns
returns c = rw c.no_volume-volume.ensures
