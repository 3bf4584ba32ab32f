-- `gf256::nonzero` meets its contract: a and 255 are 256 or more where a is not 0. Assumes nothing.
use native.Mathlib.Omega.{arith}
use Rattle.gf256.proofs.nonzero.Goals as goal

pub returns : goal.returns
returns c = (omega arith, λ z. omega arith, λ p. omega arith)
