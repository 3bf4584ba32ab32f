-- What volumeshelf's call says of what is lent, said of the tables.
use Rattle.std.proofs.Common.{ℕ, min, length, ap, ◌∙◌}
use Rattle.tables.specs.declared.Lengths.{Lengths}
use Rattle.volumeplay.proofs.Parts.{called-long}
use Rattle.volumeplay.proofs.entry.call_part.Goals as goal

pub returns : goal.returns
returns c =
    let a = c.args in
    let lengths = c.lengths-lengths.ensures in
    called-long a.nodes.now a.clients.now a.blocks.now a.spare.now a.differences.now a.value.now a.volume a.line
    c.least-nodes_to.result c.least-clients_to.result c.least-value_to.result
    (c.least-nodes_to.ensures ∙ ap (λ (l : Lengths). min l.nodes (length a.nodes.now)) lengths)
    (c.least-clients_to.ensures ∙ ap (λ (l : Lengths). min l.clients (length a.clients.now)) lengths)
    (c.least-value_to.ensures ∙ ap (λ (n : ℕ). min n (length a.value.now)) c.count.ensures)
    c.call.result c.call.ensures c.call-2.result c.call-2.new.nodes c.call-2.new.clients c.call-2.new.blocks c.call-2.new.spare c.call-2.new.differences
    c.call-2.auto.nodes c.call-2.auto.clients c.call-2.auto.blocks c.call-2.auto.spare c.call-2.auto.differences
    c.call-2.ensures
