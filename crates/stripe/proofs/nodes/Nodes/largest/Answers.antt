-- best is the largest set with the redundant nodes so far. Assumes nothing.
use Rattle.std.proofs.Common.{◌≡◌, ◌+◌, ◌-◌, suc, arith}
use Rattle.machine.specs.Rebuild.{largest}
use Rattle.stripe.proofs.nodes.Nodes.largest.Goals as goal

pub loop-i-init : goal.loop-i-init
unfolding largest
loop-i-init c = let e : c.args.z.k - c.args.z.k ≡ 0 = omega arith in rw e c.all_data-best.ensures

pub loop-i-preserved : goal.loop-i-preserved
unfolding largest
loop-i-preserved c = let k = c.args.z.k in
    let i = c.loop-i.i in
    let e : (i + 1) - k ≡ suc (i - k) = omega arith in
    let r : k + suc (i - k) ≡ i + 1 = omega arith in
    rw (e, largest, r, ← c.loop-i.invariant) c.larger-best.ensures

pub returns : goal.returns
returns c = let e : c.loop-i.i ≡ c.args.z.n = omega arith in rw e at c.loop-i.invariant
