-- A count of 0. Assumes nothing.
use Rattle.std.proofs.Common.{refl}
use Rattle.basics.specs.Lists.{list_of}
use Rattle.entries.proofs.Few.empty.Goals as goal

pub returns : goal.returns
unfolding list_of
returns g c d = refl
