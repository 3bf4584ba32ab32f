-- `blocks::swap` meets its contract: after i turns block has the first i bytes of the value, and difference those of the difference. Assumes nothing.
use mathlib.Core.Path.{refl, sym, ap, ◌∙◌}
use native.Mathlib.Omega.{arith}
use lib.Bits.{bit_xor}
use lib.ListN.{get_or}
use Rattle.blocks.proofs.Fill.{filled_none, filled-turn, filled-rest, filled-all, zip_length, zip-at}
use Rattle.blocks.proofs.swap.Goals as goal

pub loop-i-init : goal.loop-i-init
loop-i-init c = (filled_none _ _, filled_none _ _)

pub loop-i-preserved : goal.loop-i-preserved
loop-i-preserved c = let value = c.args.value.now in
    let block = c.args.block.now in
    let i = c.loop-i.i in
    let old-byte = filled-rest _ _ _ _ (omega arith) c.loop-i.invariant.0 (omega arith) in (
      filled-turn _ _ _ _ (omega arith) c.loop-i.invariant.0 _ (omega arith) refl,
      filled-turn _ _ _ _ (omega (arith, zip_length bit_xor value block)) c.loop-i.invariant.1 _ (omega arith)
          (ap (bit_xor (get_or value i 0)) old-byte ∙ sym (zip-at bit_xor value block i (omega arith) (omega arith))),
    )

pub returns : goal.returns
returns c = let args = c.args in record { block = filled-all _ _ _ _ (omega arith) c.loop-i.invariant.0 (omega arith); difference = filled-all _ _ _ _ (omega (arith, zip_length bit_xor args.value.now args.block.now)) c.loop-i.invariant.1 (omega arith) }
