-- The step by value, with what was taken out of the tables and what is put back.
use Rattle.std.proofs.Common.{◌∙◌, sym}
use Rattle.shelf.proofs.Entered.{refused-step, stepped}
use Rattle.shelf.proofs.entry.step.Goals as goal
use Rattle.shelf.proofs.entry.step.Goals.{then-looks_at_all, else-looks_at_all}

pub returns-then-not-are_tables : goal.returns-then-not-are_tables
returns-then-not-are_tables c =
    refused-step _ _ c.args.request _ _ _ c.args.value.now (sym c.are_tables.ensures ∙ c.if-not-are_tables.true)

pub returns : goal.returns
returns c =
    stepped _ _ c.args.request _ _ _ c.args.value.now c.fresh.result c.failed.result (sym c.are_tables.ensures ∙ c.if-not-are_tables.false) c.caller-c.ensures
    c.fresh.ensures c.record_at-client.ensures c.target-j.ensures c.failed.ensures c.record_at-node.ensures
    (λ all n. elim c.if-looks_at_all.branch [
      | then-looks_at_all w ↦ rw w.seen-is (w.see-seen.ensures n)
      | else-looks_at_all w ↦ absurd (cc (w.if-looks_at_all.false, c.looks_at_all.ensures, all))
    ])
    c.step-r.ensures c.put_at.ensures c.change.ensures.nodes_are c.change.ensures.same c.put_at-2.ensures
