-- Places from the first to i are changed. Assumes nothing.
use Rattle.records.specs.View.{node_of}
use Rattle.stripe.specs.Seen.{changed_at, first_of, end_of}
use Rattle.stripe.specs.View.{blank_record, record_at}
use Rattle.stripe.proofs.Loops.{Stored}
use Rattle.stripe.proofs.nodes.Nodes.change.Given as goal

abbrev pub invariant-loop-i : goal.invariant-loop-i
invariant-loop-i l = Stored node_of blank_record (λ p. changed_at l.change p (node_of (record_at l.initial.self p))) l.initial.self.items l.self.items (first_of l.change l.n) l.i (end_of l.change l.n)
