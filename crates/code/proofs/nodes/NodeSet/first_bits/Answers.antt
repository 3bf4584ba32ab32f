-- `code::nodes::NodeSet::first_bits` meets its contract. Assumes nothing.
use native.Mathlib.Omega.{arith}
use lib.Pow.{pow_pos}
use Rattle.code.proofs.SetBits.{power-fits, bits-first}
use Rattle.code.proofs.nodes.NodeSet.first_bits.Goals as goal

pub nonzero_rem-result : goal.nonzero_rem-result
nonzero_rem-result c = let n = c.args.n in omega (arith, power-fits n (omega arith), pow_pos n)

pub returns : goal.returns
returns c = let a = c.args in bits-first a.self a.n (omega arith)
