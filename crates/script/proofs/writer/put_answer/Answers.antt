-- `script::writer::put_answer` meets its contract. Assumes nothing.
use native.Mathlib.Omega.{arith}
use Rattle.script.proofs.Writing.{put_then, event-length, number-length}
use Rattle.script.proofs.writer.put_answer.Goals as goal

pub put_event-answer_at-requires : goal.put_event-answer_at-requires
put_event-answer_at-requires c = omega (arith, number-length c.args.number)

pub put_number-shown_at-requires : goal.put_number-shown_at-requires
put_number-shown_at-requires c = omega (arith, number-length c.args.number, event-length c.args.event)

pub put_shown-requires : goal.put_shown-requires
put_shown-requires c = omega (arith, number-length c.args.number, event-length c.args.event, number-length c.args.answer)

pub returns : goal.returns
returns c = put_then c.put_number-event_at.ensures (put_then c.put_event-answer_at.ensures (put_then c.put_number-shown_at.ensures c.put_shown.ensures))
