-- Line by line. Assumes nothing.
use Rattle.std.proofs.Common.{subst}
use Rattle.streams.specs.Reading.{unread, TakesLine}
use Rattle.streams.proofs.Reading.{lines-none, lines-more}
use Rattle.streams.proofs.refusing.refuse_lines.Goals as goal

pub loop-init : goal.loop-init
loop-init g c = lines-none _

pub loop-preserved : goal.loop-preserved
loop-preserved g c = lines-more _ _ _ _ c.loop.invariant
    (subst (TakesLine (unread g.R.Read.remaining c.loop.input) (unread g.R.Read.remaining c.line.new.self)) c.if-not-branch.false c.in_ok-line.ensures)
