-- The call played, and what is printed of it. Assumes nothing.
use Rattle.calls.specs.Calls.{call_of}
use Rattle.shelfrun.proofs.Turns.{answers}
use Rattle.shelfrun.proofs.answering.answer_call.Goals as goal

pub returns : goal.returns
returns c = let args = c.args in
    answers args.number (call_of args.call args.value.now) _ _ _ c.play-played.ensures.said (c.print-end.ensures args.value.now)
