-- `kernel::bits::step` meets its contract. Assumes nothing.
use Rattle.kernel.specs.Working as Working
use Rattle.kernel.proofs.bits.step.Goals as goal

pub returns : goal.returns
unfolding Working.stepped
returns c = rw (c.double.ensures, c.place.ensures.0, c.place-2.ensures.0, c.place-3.ensures.0)
