-- `coding::encoding::redundant` meets its contract. Assumes nothing.
use mathlib.Core.Path.{sym, ◌∙◌}
use Prim.Native.Nat.{◌-◌, ◌*◌}
use native.Mathlib.Omega.{arith}
use lib.Seq.{length-take-le}
use Rattle.code.specs.Code as Code
use Rattle.coding.proofs.Encoded.{data-held, encoded-rows, mixed-symbol}
use Rattle.coding.proofs.Weighing.{data-length, data-nodes}
use Rattle.coding.proofs.encoding.redundant.Goals as goal

pub slice_bounds-mix-end : goal.slice_bounds-mix-end
slice_bounds-mix-end c = sym (data-length c.data_nodes-data.result c.data_nodes-data.ensures c.args.k (omega arith))

pub slice_bounds-mix-end-2 : goal.slice_bounds-mix-end-2
slice_bounds-mix-end-2 c = sym (length-take-le _ c.data_weights-rows.result (omega arith))

pub mix-requires : goal.mix-requires
mix-requires c = let first = c.data_nodes-data.ensures in
    let args = c.args in
    let pre = c.requires in
    let nodes = c.data_nodes-data.result in
    let count = data-length nodes first args.k (omega arith) in (
      data-nodes nodes first args.k (omega arith),
      omega (arith, count),
      omega arith,
      pre.4,
      pre.6,
      length-take-le ((args.n - args.k) * 12) c.data_weights-rows.result (omega arith),
      data-held args.b args.blocks.now nodes first args.k (omega arith) (omega arith),
      encoded-rows args.b args.blocks.now nodes first args.k (omega arith) (args.n - args.k) c.data_weights-rows.result c.data_weights-rows.ensures,
    )

pub returns : goal.returns
unfolding Code.redundant
returns c = let args = c.args in
    c.mix.ensures
    ∙ mixed-symbol args.b args.blocks.now c.data_nodes-data.result c.data_nodes-data.ensures args.k (omega arith) (args.n - args.k) c.data_weights-rows.result c.data_weights-rows.ensures
