-- The pick by value, with what was taken out of the tables and what is put back.
use Rattle.std.proofs.Common.{◌∙◌, sym, arith}
use Rattle.shelf.proofs.Entered.{refused-pick, picked}
use Rattle.shelf.proofs.entry.pick.Goals as goal
use Rattle.shelf.proofs.entry.pick.Goals.{then-not-are_tables-via-then-not-are_tables, then-not-are_tables-via-else-not-are_tables+then-z-gt-NODES}

pub returns-then-not-are_tables : goal.returns-then-not-are_tables
returns-then-not-are_tables c =
    refused-pick _ _ c.args.request _ _ _ c.args.value.now
    (λ e h. elim c.then-not-are_tables.branch [
      | then-not-are_tables-via-then-not-are_tables w ↦ cc (w.if-not-are_tables.true, c.are_tables.ensures, e)
      | then-not-are_tables-via-else-not-are_tables+then-z-gt-NODES w ↦ omega (arith, w.if-z-gt-NODES.true, h)
    ])

pub returns : goal.returns
returns c =
    picked _ _ c.args.request _ _ _ c.args.value.now c.fresh.result c.gather.result (sym c.are_tables.ensures ∙ c.if-not-are_tables.false)
    c.fresh.ensures c.record_at-client.ensures c.gather.ensures c.pick-r.ensures c.change.ensures.nodes_are c.change.ensures.same c.put_at.ensures
