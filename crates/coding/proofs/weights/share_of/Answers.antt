-- `coding::weights::share_of` meets its contract. Assumes nothing.
use mathlib.Core.Path.{◌∙◌}
use Prim.Native.Nat.{◌-◌}
use native.Mathlib.Omega.{arith}
use Rattle.coding.proofs.Weighing.{rising-apart}
use Rattle.coding.proofs.weights.share_of.Goals as goal

pub overflow_cast-j : goal.overflow_cast-j
overflow_cast-j c = omega (arith, c.shared_slice_known-2-1.given (c.args.q - 1))

pub others-apart-requires : goal.others-apart-requires
others-apart-requires c = let q = c.args.q in
    (c.requires.0, c.requires.1, c.requires.3, c.requires.4, rising-apart c.args.nodes.now c.requires.2 q (omega arith) (omega arith), c.requires.1.from (q - 1) (omega arith), omega (arith, c.shared_slice_known-2-1.given (q - 1)))

pub scale-requires : goal.scale-requires
scale-requires c = let q = c.args.q in
    (c.requires.0, c.requires.1.few, c.requires.1.from (q - 1) (omega arith), omega (arith, c.shared_slice_known-2-1.given (q - 1)))

pub over-requires : goal.over-requires
over-requires c = (c.scale.ensures.1, c.others-apart.ensures.1)

pub returns : goal.returns
returns c = record { power_is = c.over.ensures.0 ∙ rw (c.scale.ensures.0, c.others-apart.ensures.0); small = c.over.ensures.1 }
