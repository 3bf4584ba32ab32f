-- The first i stand in the buffer. Assumes nothing.
use mathlib.Core.Path.{ap, ◌∙◌}
use native.Mathlib.Omega.{arith}
use Rattle.imaging.proofs.Items.{none-stand, more-stand, all-stand}
use Rattle.imaging.proofs.sections.put_records.Goals as goal

pub loop-i-init : goal.loop-i-init
loop-i-init g c = none-stand _ _ _ _ _

pub loop-i-preserved : goal.loop-i-preserved
loop-i-preserved g c =
    more-stand _ _ c.args.records.now c.args.out.now c.args.at _ c.loop-i.invariant c.put.ensures (omega arith)
    (c.bytes.ensures ∙ ap g.T.Imaged.shown c.index-records-i.is) (omega (arith, c.bytes.type_inv))

pub returns : goal.returns
returns g c = all-stand _ _ c.args.records.now c.args.out.now c.args.at c.loop-i.invariant (omega arith)
