use Rattle.std.proofs.Common.{◌≡◌, arith, rules, length}
use Rattle.streams.proofs.Reading.{takes-first, takes-next}
use Rattle.streams.proofs.input.Input.next.Goals as goal
use Rattle.streams.proofs.input.Input.next.Goals.{then-self+in_ok-end+else-end-eq0, else-self}

pub returns : goal.returns
returns g c =
    let s = c.args.self.now in
    let room : length s.buffer ≡ 65536 = search rules in
    elim c.if-self.branch [
      | then-self+in_ok-end+else-end-eq0 w ↦ rw w.self-is
          (takes-first (g.R.Read.remaining s.from) (g.R.Read.remaining w.read.new.self) s.buffer w.read.new.buf s.at s.end w.in_ok-end.end
          (omega (arith, w.if-self.true)) (omega (arith, w.if-end-eq0.false)) w.in_ok-end.ensures.bound.0 w.in_ok-end.ensures.bytes.0)
      | else-self w ↦ rw w.self-is (takes-next (g.R.Read.remaining s.from) s.buffer s.at s.end (omega (arith, w.if-self.false)) (omega (arith, room, s.in_room)))
    ]
