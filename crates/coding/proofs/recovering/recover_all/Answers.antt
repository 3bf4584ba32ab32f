-- `coding::recovering::recover_all` meets its contract. Assumes nothing.
use mathlib.Core.Path.{◌≡◌, sym, ap, ◌∙◌}
use Prim.Native.Nat.{◌*◌, ◌≤◌}
use native.Mathlib.Omega.{arith}
use lib.ListN.{replicate, length}
use lib.Seq.{length-take-le}
use Rattle.blocks.proofs.Parts.{bytes_of}
use Rattle.coding.proofs.Restored.{nodes-chosen, recovered-rows, restored-table, restored-none}
use Rattle.coding.proofs.recovering.recover_all.Goals as goal

pub returns-then-is_empty : goal.returns-then-is_empty
returns-then-is_empty c = let args = c.args in
    let none : length args.nodes.now ≡ 0 = grind (arith, c.if-is_empty.ensures) in
    c.fill.ensures.after (λ y e. e) ∙ ap (λ n. replicate n 0) c.requires.5 ∙ restored-none args.m args.b args.blocks.now args.nodes.now none

pub slice_bounds-mix-end : goal.slice_bounds-mix-end
slice_bounds-mix-end c = sym (length-take-le _ c.fill_rows.new.rows (omega (arith, c.fill_rows.ensures.0)))

pub mix-requires : goal.mix-requires
mix-requires c = let args = c.args in
    let pre = c.requires in
    let rows = c.fill_rows.ensures in
    let some : 1 ≤ length args.nodes.now = grind (arith, c.if-is_empty.ensures) in (
      pre.2,
      some,
      pre.0,
      pre.1,
      pre.5,
      length-take-le (args.m * 12) c.fill_rows.new.rows (omega (arith, pre.0, rows.0)),
      pre.4,
      recovered-rows args.m args.nodes.now c.fill_rows.new.rows pre.2.few rows.1,
    )

pub returns : goal.returns
returns c = let args = c.args in
    let pre = c.requires in
    c.mix.ensures
    ∙ restored-table args.m args.nodes.now c.fill_rows.new.rows pre.2.few c.fill_rows.ensures.1 args.b args.blocks.now
    (bytes_of args.blocks.now c.shared_slice_known-2-1.given) (nodes-chosen args.nodes.now pre.2 pre.3 (bytes_of args.nodes.now c.shared_slice_known-1.given))
