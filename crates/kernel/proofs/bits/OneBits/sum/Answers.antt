-- `kernel::bits::OneBits::sum` meets its contract. Assumes nothing.
use Rattle.kernel.specs.Working as Working
use Rattle.kernel.proofs.bits.OneBits.sum.Goals as goal

pub returns : goal.returns
unfolding Working.down
returns c = rw c.step.ensures
