use Rattle.std.proofs.Common.{arith, ◌≤◌}
use Rattle.shelfrun.proofs.Bytes.{reached-more}
use Rattle.shelfrun.proofs.Played.{after-err, played-last, played-more, played-start}
use Rattle.shelfrun.proofs.run.Goals as goal

pub loop-room-init : goal.loop-room-init
loop-room-init g c = (
  omega (arith, c.new-shelf.ensures.lines_value),
  played-start (g.R.Read.remaining c.args.from.now) (g.W.Write.contents c.args.to.now) c.new-shelf.result c.args.blocks.now c.args.spare.now
      c.args.differences.now c.new-shelf.ensures.keeps c.requires.blocks_value,
)

pub returns-then-n-eq0-clause-reached : goal.returns-then-n-eq0-clause-reached
returns-then-n-eq0-clause-reached g c = reached-more c.loop-room.invariant.1.played.reached c.in_ok-passed.ensures.feeds

pub returns-then-n-eq0-clause-played : goal.returns-then-n-eq0-clause-played
returns-then-n-eq0-clause-played g c =
    played-last (g.R.Read.remaining c.pass.new.from) c.pass.new.input c.in_ok-passed.passed.read c.if-n-eq0.true c.loop-room.invariant.1 c.in_ok-passed.ensures.feeds c.in_ok-passed.ensures.reads

pub loop-room-preserved : goal.loop-room-preserved
loop-room-preserved g c =
    let read = c.in_ok-passed.ensures.read_in_bounds in
    let most : c.in_ok-passed.passed.read ≤ c.loop-room.room = omega (arith, read.0) in (
      omega (arith, read.0, read.1),
      played-more (g.R.Read.remaining c.pass.new.from) (g.W.Write.contents c.write_all.new.self) c.pass.new.input c.in_ok-passed.passed.read c.loop-room.invariant.1 read.0 most c.in_ok-passed.ensures.feeds
          c.in_ok-passed.ensures.reads c.in_ok-write_all.ensures.bytes,
    )

pub returns-in_err-write_all-clause-err : goal.returns-in_err-write_all-clause-err
returns-in_err-write_all-clause-err g c =
    after-err c.from_residual-in_err-write_all.result
    (c.in_ok-passed.passed.shelf, reached-more c.loop-room.invariant.1.played.reached c.in_ok-passed.ensures.feeds)
