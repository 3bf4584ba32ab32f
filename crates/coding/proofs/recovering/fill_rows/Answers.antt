-- `coding::recovering::fill_rows` meets its contract: after j turns the weights of the first j nodes are there. Assumes nothing.
use mathlib.Core.Path.{◌≡◌, ap, ◌∙◌}
use native.Mathlib.Numerals.{add-one}
use native.Mathlib.Omega.{arith}
use lib.ListN.{length}
use Rattle.blocks.specs.Blocks.{set_part}
use Rattle.coding.proofs.Restored.{rows-turn, rows-length}
use Rattle.coding.proofs.recovering.fill_rows.Goals as goal

pub shares-shares-requires : goal.shares-shares-requires
shares-shares-requires c = let pre = c.requires in
    (c.table-logarithms.ensures, pre.2, pre.3)

pub loop-j-init : goal.loop-j-init
loop-j-init c = (c.requires.1, λ u l. absurd (omega arith))

pub node_row-row-requires : goal.node_row-row-requires
node_row-row-requires c = let inside = c.loop-j-test.true in
    let pre = c.requires in
    (c.table-powers.ensures, c.table-logarithms.ensures, pre.2, omega arith, omega (arith, inside, pre.0), c.shares-shares.ensures)

pub loop-j-preserved : goal.loop-j-preserved
unfolding set_part
loop-j-preserved c = let inside = c.loop-j-test.true in
    let j = c.loop-j.j in
    let size = c.loop-j.invariant.0 in
    let row = c.copy_from_slice.new.self in
    let same = c.copy_from_slice.ensures.after in
    let many : length row ≡ 12 = ap length same ∙ omega arith in (
      rows-length c.loop-j.rows row j (omega (arith, inside, c.requires.0, size)) many size,
      rows-turn _ c.loop-j.rows row j c.requires.2.few (omega (arith, inside, c.requires.0, size)) many c.loop-j.invariant.1
          (rw (← same, add-one j) at c.node_row-row.ensures),
    )

pub returns : goal.returns
returns c = (c.loop-j.invariant.0, λ u l. c.loop-j.invariant.1 u (omega arith))
