-- `kernel::start_of` meets its contract. Assumes nothing.
use mathlib.Core.Path.{sym}
use Prim.Native.Nat.{◌≤◌, ◌-◌}
use native.Mathlib.Nat.{mul-le-mul_right}
use native.Mathlib.Omega.{arith}
use Rattle.kernel.proofs.Mixed.{start-in, start-out}
use Rattle.kernel.proofs.start_of.Goals as goal

pub overflow_sub-result : goal.overflow_sub-result
overflow_sub-result c = let h = c.in-Some.ensures.lookup.3 in rw (h.1 0) (c.requires.0.from c.args.q h.0)

pub overflow_mul-result : goal.overflow_mul-result
overflow_mul-result c = let h = c.in-Some.ensures.lookup.3 in
    let byte = c.type_inv.nodes c.args.q in
    let small : c.in-Some.node.now - 1 ≤ 256 = omega (arith, h.1 0, byte) in
    omega (arith, mul-le-mul_right c.args.b small)

pub returns-in-Some : goal.returns-in-Some
returns-in-Some c = let h = c.in-Some.ensures.lookup.3 in rw (start-in c.args.nodes.now c.args.b c.args.q h.0, h.1 0)

pub returns-in-None : goal.returns-in-None
returns-in-None c = sym (start-out _ _ _ c.in-None.ensures.lookup.3)
