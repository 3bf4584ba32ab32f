-- So many lines were taken.
use Rattle.streams.specs.Reading.{unread}
use Rattle.streams.proofs.Reading.{Lines}
use Rattle.streams.proofs.refusing.refuse_lines.Given as goal

abbrev pub invariant-loop : goal.invariant-loop
invariant-loop g l = Lines (unread g.R.Read.remaining l.initial.input) (unread g.R.Read.remaining l.input) l.counter
