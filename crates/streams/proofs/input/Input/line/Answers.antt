-- Byte by byte. Assumes nothing.
use Rattle.std.proofs.Common.{rules, of_calls, arith, subst}
use Rattle.streams.specs.Reading.{unread, TakesByte}
use Rattle.streams.proofs.Reading.{within-none, within-more, within-ends, within-end, within-full}
use Rattle.streams.proofs.input.Input.line.Goals as goal

pub loop-init : goal.loop-init
loop-init g c = (c.requires, within-none _)

pub returns-in_default : goal.returns-in_default
returns-in_default g c =
    within-end _ _ _ _ _ c.loop.invariant.1
    (subst (TakesByte (unread g.R.Read.remaining c.loop.self) (unread g.R.Read.remaining c.next.new.self)) c.in_default.is c.in_ok-byte.ensures)

pub returns-then-byte-eq-LF : goal.returns-then-byte-eq-LF
returns-then-byte-eq-LF g c =
    within-ends _ _ _ _ _ _ c.if-byte-eq-LF.true c.loop.invariant.1
    (subst (TakesByte (unread g.R.Read.remaining c.loop.self) (unread g.R.Read.remaining c.next.new.self)) c.in-Some.is c.in_ok-byte.ensures)

pub loop-preserved : goal.loop-preserved
loop-preserved g c = (
  search (rules, of_calls),
  within-more _ _ _ _ _ _ c.if-byte-eq-LF.false c.loop.invariant.1
      (subst (TakesByte (unread g.R.Read.remaining c.loop.self) (unread g.R.Read.remaining c.next.new.self)) c.in-Some.is c.in_ok-byte.ensures),
)

pub returns : goal.returns
returns g c = within-full _ _ _ _ _ (omega (arith, c.loop-test.false)) c.loop.invariant.1
