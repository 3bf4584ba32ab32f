-- `kernel::mix` meets its contract: the blocks at the starts are those of the nodes. Assumes nothing.
use mathlib.Core.Path.{◌∙◌}
use native.Mathlib.Omega.{arith}
use Rattle.kernel.proofs.Mixed.{mixed-sources, mixed-table}
use Rattle.kernel.proofs.mix.Goals as goal

pub combine-requires : goal.combine-requires
combine-requires c = let args = c.args in
    let pre = c.requires in
    (pre.2, pre.4, pre.5, mixed-sources args.b args.t.now args.nodes.now c.starts_of-starts.result pre.0 pre.1 c.starts_of-starts.ensures (omega arith) pre.6)

pub returns : goal.returns
returns c = let args = c.args in
    let pre = c.requires in
    c.combine.ensures
    ∙ mixed-table args.b args.t.now args.nodes.now c.starts_of-starts.result pre.0 pre.1 c.starts_of-starts.ensures args.m args.rows.now (omega arith) pre.5 pre.7
