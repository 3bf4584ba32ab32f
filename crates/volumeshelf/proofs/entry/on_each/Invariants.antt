-- The calls so far have led to the tables and to the answer.
use Rattle.volumeshelf.specs.Entry.{Turns}
use Rattle.volumeshelf.proofs.entry.on_each.Given as goal

abbrev pub invariant-loop-stripe : goal.invariant-loop-stripe
invariant-loop-stripe l =
    Turns l.request l.value
    (record {
      nodes = l.initial.nodes;
      clients = l.initial.clients;
      blocks = l.initial.blocks;
      spare = l.initial.spare;
      differences = l.initial.differences;
    }) l.stripe
    (record { nodes = l.nodes; clients = l.clients; blocks = l.blocks; spare = l.spare; differences = l.differences }) l.answer
