-- `coding::weights::span` meets its contract: at place l r is the logarithm of the product of the nodes after the first a up to l. Assumes nothing.
use mathlib.Core.Path.{◌≡◌}
use Prim.Native.Nat.{◌-◌}
use native.Mathlib.Omega.{arith}
use Rattle.gf256.specs.Field.{power}
use Rattle.coding.specs.Weights.{factors}
use Rattle.coding.proofs.Weighing.{points-apart, factors-turn}
use Rattle.coding.proofs.weights.span.Goals as goal

pub loop-l-init : goal.loop-l-init
unfolding factors power
loop-l-init c = let a = c.args.a in
    let none : a - a ≡ 0 = omega arith in
    (omega arith, rw none)

pub overflow_sub-nodes : goal.overflow_sub-nodes
overflow_sub-nodes c = c.requires.1.from c.loop-l.l (omega arith)

pub overflow_cast-t-in-loop-l : goal.overflow_cast-t-in-loop-l
overflow_cast-t-in-loop-l c = let l = c.loop-l.l in
    omega (arith, (points-apart c.args.nodes.now c.requires.1 (λ l. omega (arith, c.shared_slice_known-1.given l)) c.args.j l (omega arith) (omega arith) (omega arith) (c.requires.4 l (omega arith) (omega arith))).1)

pub logarithm-r-requires : goal.logarithm-r-requires
logarithm-r-requires c = let l = c.loop-l.l in
    let far = points-apart c.args.nodes.now c.requires.1 (λ l. omega (arith, c.shared_slice_known-1.given l)) c.args.j l (omega arith) (omega arith) (omega arith) (c.requires.4 l (omega arith) (omega arith)) in
    (c.requires.0, far.0, far.1)

pub overflow_add-r : goal.overflow_add-r
overflow_add-r c = omega (arith, c.requires.1.few, c.logarithm-r.ensures.0, c.loop-l.invariant.0)

pub loop-l-preserved : goal.loop-l-preserved
loop-l-preserved c = let inv = c.loop-l.invariant in
    let found = c.logarithm-r.ensures in (
      omega (arith, found.0, inv.0),
      factors-turn c.args.nodes.now c.args.a c.loop-l.l (c.args.j - 1) c.loop-l.r c.logarithm-r.result (omega arith) inv.1 found.1,
    )

pub returns : goal.returns
returns c = let last : c.loop-l.l ≡ c.args.e = omega arith in
    (rw last at c.loop-l.invariant.1, rw last at c.loop-l.invariant.0)
