-- `kernel::bits::EightBits::sum` meets its contract. Assumes nothing.
use Rattle.kernel.specs.Working as Working
use Rattle.kernel.proofs.bits.EightBits.sum.Goals as goal

pub returns : goal.returns
unfolding Working.down
returns c = rw (c.step.ensures, c.step-b1.ensures, c.step-b2.ensures, c.step-b3.ensures, c.step-b4.ensures, c.step-b5.ensures, c.step-b6.ensures, c.step-b7.ensures)
