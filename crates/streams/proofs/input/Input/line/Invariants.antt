-- So many bytes of the line were taken.
use Rattle.streams.specs.Reading.{unread}
use Rattle.streams.proofs.Reading.{Within}
use Rattle.streams.proofs.input.Input.line.Given as goal

abbrev pub invariant-loop : goal.invariant-loop
invariant-loop g l =
    goal.F-IsAlwaysCallable g l.take
    × Within (unread g.R.Read.remaining l.initial.self) (unread g.R.Read.remaining l.self) l.counter l.is_begun
