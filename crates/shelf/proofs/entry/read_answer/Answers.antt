-- The read by value, with what was taken out of the tables.
use Rattle.std.proofs.Common.{◌∙◌, sym}
use Rattle.shelf.proofs.Entered.{refused-read, read-on}
use Rattle.shelf.proofs.entry.read_answer.Goals as goal
use Rattle.shelf.proofs.entry.read_answer.Goals.{then-has_picked, else-has_picked}

pub returns-then-not-are_tables : goal.returns-then-not-are_tables
returns-then-not-are_tables c = refused-read _ _ c.args.request (sym c.are_tables.ensures ∙ c.if-not-are_tables.true)

pub returns : goal.returns
returns c =
    read-on _ _ c.args.request c.fresh.result c.failed.result c.read.result (sym c.are_tables.ensures ∙ c.if-not-are_tables.false)
    c.failed.ensures c.record_at-node.ensures c.holder_number-c.ensures c.fresh.ensures c.record_at-client.ensures
    (λ picked n. elim c.if-has_picked.branch [
      | then-has_picked w ↦ rw w.seen-is (w.see-seen.ensures n)
      | else-has_picked w ↦ absurd (cc (w.if-has_picked.false, c.has_picked.ensures, picked))
    ])
    c.read.ensures
