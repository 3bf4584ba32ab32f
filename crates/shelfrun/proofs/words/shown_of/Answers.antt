-- By cases of the call. Assumes nothing.
use mathlib.Core.Path.{◌∙◌, ap}
use Rattle.script.specs.Lines.{shown_text}
use Rattle.shelfrun.specs.Feeding.{byte_in}
use Rattle.shelfrun.proofs.Turns.{one-shown}
use Rattle.shelfrun.proofs.words.shown_of.Goals as goal

pub returns-in-Read : goal.returns-in-Read
returns-in-Read c = let a = c.args in
    rw c.in-Read.is
    (ap shown_text (c.byte_of.ensures ∙ ap byte_in c.shown_part.ensures) ∙ one-shown a.answer _ a.blocks.now a.spare.now)
