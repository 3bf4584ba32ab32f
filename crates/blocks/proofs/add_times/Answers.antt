-- `blocks::add_times` meets its contract: after i turns dst has the first i bytes of the sum. Assumes nothing.
use mathlib.Core.Path.{ap, ◌∙◌}
use native.Mathlib.Omega.{arith}
use lib.ListN.{get_or}
use Rattle.gf256.specs.Field.{product}
use Rattle.blocks.proofs.Fill.{filled_none, zip_turn, zip-all}
use Rattle.blocks.proofs.add_times.Goals as goal

pub loop-i-init : goal.loop-i-init
loop-i-init c = filled_none _ _

pub loop-i-preserved : goal.loop-i-preserved
loop-i-preserved c = let byte = get_or c.args.src.now c.loop-i.i 0 in
    let times = c.times.ensures ∙ ap (λ m. product m byte) c.of-m.ensures in
    zip_turn _ _ _ _ _ _ (omega arith) (omega arith) c.loop-i.invariant (rw times)

pub returns : goal.returns
returns c = zip-all _ _ _ _ _ (omega arith) c.loop-i.invariant
