use Rattle.std.proofs.Common.{take, arith}
use Rattle.std.proofs.lemmas.Result.{on_ok_weaker}
use Rattle.shelfrun.proofs.Played.{played-whole}
use Rattle.shelfrun.proofs.play.Goals as goal

pub returns : goal.returns
returns g c =
    on_ok_weaker c.write_all.result
    (played-whole (g.W.Write.contents c.write_all.new.self) (take c.finish-end.result c.finish-end.new.out) c.in_ok-shelf.ensures.played
    c.finish-end.ensures.out_after (c.in_ok-shelf.ensures.ended (omega arith)))
    c.write_all.ensures.bytes
