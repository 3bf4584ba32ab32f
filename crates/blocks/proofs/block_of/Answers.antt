-- `blocks::block_of` meets its contract. Assumes nothing.
use mathlib.Core.Path.{sym, ◌∙◌}
use lib.ListN.{length}
use native.Mathlib.Omega.{arith}
use native.Mathlib.Nat.{add-sub_cancel_left}
use Rattle.blocks.specs.Blocks.{part}
use Rattle.blocks.proofs.Standing.{has_in}
use Rattle.blocks.proofs.block_of.Goals as goal

pub overflow_sub-a : goal.overflow_sub-a
overflow_sub-a c = (has_in _ _ _ (sym c.has_block.ensures ∙ c.if-has_block.true)).0

pub overflow_mul-a : goal.overflow_mul-a
overflow_mul-a c = let a = c.args in
    let h = has_in a.b a.j (length a.t.now) (sym c.has_block.ensures ∙ c.if-has_block.true) in
    record { fits = omega (arith, h.1) }

pub overflow_add-result : goal.overflow_add-result
overflow_add-result c = let a = c.args in
    let h = has_in a.b a.j (length a.t.now) (sym c.has_block.ensures ∙ c.if-has_block.true) in
    record { fits = omega (arith, h.1) }

pub slice_bounds-result-end : goal.slice_bounds-result-end
slice_bounds-result-end c = (has_in _ _ _ (sym c.has_block.ensures ∙ c.if-has_block.true)).1

pub returns-then-has_block : goal.returns-then-has_block
unfolding part
returns-then-has_block c = simp (sym c.has_block.ensures ∙ c.if-has_block.true, add-sub_cancel_left)

pub returns : goal.returns
returns c = simp (sym c.has_block.ensures ∙ c.if-has_block.false)
