-- `coding::decode` meets its contract: its callees' requirements are among the sizes. Assumes nothing.
use native.Mathlib.Omega.{arith}
use Rattle.code.proofs.Sizes.{sizes-of}
use Rattle.coding.proofs.decode.Goals as goal

pub of_blocks-requires : goal.of_blocks-requires
of_blocks-requires c = let s = sizes-of _ _ _ c.in_ok-within_limits.ensures in (omega arith, s.block_most)

pub of_blocks-requires-2 : goal.of_blocks-requires-2
of_blocks-requires-2 c = let s = sizes-of _ _ _ c.in_ok-within_limits.ensures in (omega arith, s.block_most)
