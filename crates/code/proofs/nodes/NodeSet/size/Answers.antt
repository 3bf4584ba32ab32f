-- `code::nodes::NodeSet::size` meets its contract. Assumes nothing.
use Prim.Native.Nat.{◌%◌, ◌^◌}
use native.Mathlib.Nat.{mod-lt}
use native.Mathlib.Omega.{arith}
use lib.Count.{ones-le}
use lib.Pow.{pow_pos}
use Rattle.code.proofs.Members.{size-ones}
use Rattle.code.proofs.nodes.NodeSet.size.Goals as goal

pub overflow_cast-result : goal.overflow_cast-result
overflow_cast-result c = let bits = c.args.self.bits in
    omega (arith, ones-le 18 (bits % 2 ^ 18) (mod-lt bits (pow_pos 18)))

pub returns : goal.returns
returns c = let s = c.args.self in
    (size-ones s, ones-le 18 (s.bits % 2 ^ 18) (mod-lt s.bits (pow_pos 18)))
