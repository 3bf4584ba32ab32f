-- `kernel::bits::fill_whole` meets its contract: of weights 0 and 1 only the lowest bit counts. Assumes nothing.
use mathlib.Core.Path.{◌∙◌}
use native.Mathlib.Omega.{arith}
use Rattle.kernel.proofs.Highest.{plain-is}
use Rattle.kernel.proofs.bits.fill_whole.Goals as goal

pub returns-then-z-lt16 : goal.returns-then-z-lt16
returns-then-z-lt16 c =
    (c.fill_sixteens.ensures.0, λ i h first. c.fill_sixteens.ensures.1 i h ∙ plain-is _ _ _ _ _ (omega arith) (omega arith) (omega arith) first 7)
