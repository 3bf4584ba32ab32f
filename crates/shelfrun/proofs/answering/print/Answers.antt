-- The words of the answer, and its number. Assumes nothing.
use mathlib.Core.Path.{sym, ◌∙◌}
use Rattle.calls.specs.Answers.{answer_of}
use Rattle.calls.specs.Calls.{call_of}
use Rattle.step.specs.Plays.{shown_by}
use Rattle.shelfrun.specs.Shelfrun.{sizes}
use Rattle.shelfrun.proofs.Turns.{number-alone, prints}
use Rattle.shelfrun.proofs.answering.print.Goals as goal

pub returns : goal.returns
returns c = let args = c.args in
    let shown = shown_by sizes args.call args.answer args.blocks.now args.spare.now in
    λ value.
    prints args.number (call_of args.call value) (answer_of args.answer shown) c.number.result (c.words_of-w.ensures value)
    (c.number.ensures ∙ sym (number-alone args.answer shown)) c.put_answer.ensures
