-- `kernel::fill_all` meets its contract: after j turns the bytes of the first j blocks are there. Assumes nothing.
use mathlib.Core.Path.{◌≡◌, ◌∙◌}
use Prim.Native.Nat.{◌+◌, ◌*◌}
use native.Mathlib.Omega.{arith}
use Rattle.blocks.specs.Blocks.{set_part}
use Rattle.blocks.proofs.Parts.{lent_length}
use Rattle.kernel.proofs.Tiles.{filled_none, filled-fits, filled-turn}
use Rattle.kernel.proofs.fill_all.Goals as goal

pub loop-j-init : goal.loop-j-init
loop-j-init c = filled_none _ _ _ _ _ _ _ c.requires.1 c.requires.3

pub overflow_mul-a : goal.overflow_mul-a
overflow_mul-a c = omega (arith, filled-fits _ _ _ _ _ _ _ c.requires.1 c.loop-j.j _ (omega arith) c.loop-j.invariant)

pub overflow_add-a : goal.overflow_add-a
overflow_add-a c = omega (arith, filled-fits _ _ _ _ _ _ _ c.requires.1 c.loop-j.j _ (omega arith) c.loop-j.invariant)

pub overflow_add-a-in-loop-j : goal.overflow_add-a-in-loop-j
overflow_add-a-in-loop-j c = omega (arith, filled-fits _ _ _ _ _ _ _ c.requires.1 c.loop-j.j _ (omega arith) c.loop-j.invariant)

pub slice_bounds-fill-end : goal.slice_bounds-fill-end
slice_bounds-fill-end c = omega (arith, filled-fits _ _ _ _ _ _ _ c.requires.1 c.loop-j.j _ (omega arith) c.loop-j.invariant)

pub fill-requires : goal.fill-requires
fill-requires c = let args = c.args in
    let fits = filled-fits _ _ _ _ _ _ _ c.requires.1 c.loop-j.j c.loop-j.out (omega arith) c.loop-j.invariant in
    let many = lent_length (c.loop-j.j * args.b + args.p) args.n c.loop-j.out fits in
    (omega (arith, many), c.requires.4, rw many c.requires.5)

pub loop-j-preserved : goal.loop-j-preserved
unfolding set_part
loop-j-preserved c = let args = c.args in
    let fits = filled-fits _ _ _ _ _ _ _ c.requires.1 c.loop-j.j c.loop-j.out (omega arith) c.loop-j.invariant in
    let many = lent_length (c.loop-j.j * args.b + args.p) args.n c.loop-j.out fits in
    filled-turn _ _ _ _ _ _ _ c.requires.1 c.loop-j.j c.loop-j.out c.fill.new.out (omega arith) c.loop-j.invariant (c.fill.ensures.0 ∙ many) (λ i h. c.fill.ensures.1 i (omega (arith, many)))

pub returns : goal.returns
returns c = let last : c.loop-j.j ≡ c.args.m = omega arith in
    rw last at c.loop-j.invariant
