-- `coding::encode` meets its contract: its callees' requirements are among the sizes. Assumes nothing.
use native.Mathlib.Omega.{arith}
use Rattle.code.proofs.Sizes.{sizes-of}
use Rattle.coding.proofs.encode.Goals as goal

pub of_blocks-requires : goal.of_blocks-requires
of_blocks-requires c = let s = sizes-of _ _ _ c.in_ok-within_limits.ensures in (omega arith, s.block_most)

pub overflow_sub-n : goal.overflow_sub-n
overflow_sub-n c = let s = sizes-of _ _ _ c.in_ok-within_limits.ensures in omega arith

pub of_blocks-requires-2 : goal.of_blocks-requires-2
of_blocks-requires-2 c = let s = sizes-of _ _ _ c.in_ok-within_limits.ensures in (omega arith, s.block_most)

pub redundant-requires : goal.redundant-requires
redundant-requires c = let s = sizes-of _ _ _ c.in_ok-within_limits.ensures in
    (omega (arith, s.data_least), s.data_most, s.redundant_least, s.redundant_most, s.block_most, c.in_ok-of_blocks.ensures, c.in_ok-of_blocks-2.ensures)
