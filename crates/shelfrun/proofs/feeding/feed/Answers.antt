-- After i turns the first i bytes are fed. Assumes nothing.
use Rattle.std.proofs.Common.{refl, ◌∙◌, ◌+◌, ◌≤◌, arith, length}
use lib.Seq.{take_all}
use Rattle.script.proofs.Reading.{takes}
use Rattle.shelfrun.proofs.Bytes.{feeds-none, within-line, at-end, silent-byte, line-byte, fed-all}
use Rattle.shelfrun.proofs.feeding.feed.Goals as goal

pub loop-i-init : goal.loop-i-init
loop-i-init c = (omega arith, omega arith, omega arith, refl, feeds-none _)

pub loop-i-preserved-then-byte-eq-LF : goal.loop-i-preserved-then-byte-eq-LF
loop-i-preserved-then-byte-eq-LF c =
    let inv = c.loop-i.invariant in
    let line = c.end_line-answered in
    let end = c.loop-i.end in
    let out = c.loop-i.out in
    let room : end + 64 ≤ length out = omega arith in (
      omega arith,
      omega arith,
      omega arith,
      inv.3,
      line-byte _ c.loop-i.i out end inv.4 c.loop-i-test.true line.new.out _ line.result.end (omega (arith, room)) line.ensures.end_in_bounds
          (at-end c.if-byte-eq-LF.true inv.3 c.new-reader.ensures line.ensures.answers),
    )

pub loop-i-preserved : goal.loop-i-preserved
loop-i-preserved c =
    let inv = c.loop-i.invariant in (
      omega arith,
      omega arith,
      omega arith,
      c.step-reader.auto.value ∙ inv.3,
      silent-byte _ c.loop-i.i c.loop-i.out c.loop-i.end inv.4 c.loop-i-test.true (within-line c.if-byte-eq-LF.false (takes c.step-reader.ensures)),
    )

pub returns-clause-feeds : goal.returns-clause-feeds
returns-clause-feeds c = let inv = c.loop-i.invariant in fed-all (take_all _ _ c.loop-i-test.false) inv.3 inv.4
