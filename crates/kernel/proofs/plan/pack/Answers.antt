-- `kernel::plan::pack` meets its contract. Assumes nothing.
use Rattle.kernel.specs.Working as Working
use Rattle.kernel.proofs.plan.pack.Goals as goal

pub returns : goal.returns
unfolding Working.packed
returns c = rw (c.spread.ensures.0, c.spread-2.ensures.0, c.spread-3.ensures.0, c.spread-4.ensures.0)
