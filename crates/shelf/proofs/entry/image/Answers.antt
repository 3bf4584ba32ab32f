-- The image of the stripe by value, with what was taken out of the tables.
use Rattle.std.proofs.Common.{◌∙◌, sym, arith}
use Rattle.shelf.proofs.Entered.{refused-image, imaged}
use Rattle.shelf.proofs.entry.image.Goals as goal
use Rattle.shelf.proofs.entry.image.Goals.{then-not-are_tables-via-then-not-are_tables, then-not-are_tables-via-else-not-are_tables+then-z-gt-NODES, then-not-are_tables-via-else-not-are_tables+else-z-gt-NODES+then-z-gt-CLIENTS}

pub returns-then-not-are_tables : goal.returns-then-not-are_tables
returns-then-not-are_tables c =
    refused-image _ _ c.args.z _ c.args.blocks.now c.args.differences.now c.args.spare.now
    (λ e n m. elim c.then-not-are_tables.branch [
      | then-not-are_tables-via-then-not-are_tables w ↦ cc (w.if-not-are_tables.true, c.are_tables.ensures, e)
      | then-not-are_tables-via-else-not-are_tables+then-z-gt-NODES w ↦ omega (arith, w.if-z-gt-NODES.true, n)
      | then-not-are_tables-via-else-not-are_tables+else-z-gt-NODES+then-z-gt-CLIENTS w ↦ omega (arith, w.if-z-gt-CLIENTS.true, m)
    ])

pub returns : goal.returns
returns c =
    imaged _ _ c.args.z _ c.args.blocks.now c.args.differences.now c.args.spare.now c.gather.result c.gather-2.result
    (sym c.are_tables.ensures ∙ c.if-not-are_tables.false) c.gather.ensures c.gather-2.ensures c.write.ensures
