-- Line by line. Assumes nothing.
use Rattle.std.proofs.Common.{subst, is_some}
use Rattle.streams.specs.Reading.{unread, TakesLine}
use Rattle.streams.proofs.Reading.{lines-more}
use Rattle.volumeplay.proofs.entry.play.Goals as goal

pub loop-preserved : goal.loop-preserved
loop-preserved g c = lines-more _ _ _ _ c.loop.invariant
    (subst (λ line. TakesLine (unread g.R.Read.remaining c.loop.input) (unread g.R.Read.remaining c.take_line.new.input) (is_some line))
    c.in-Some.is c.in_ok-line.ensures)
