-- The event and the byte. Assumes nothing.
use Rattle.shelfrun.proofs.words.words_of.Goals as goal

pub returns : goal.returns
returns c value = record { event-of = c.event_in.ensures value _ _; byte_read = c.shown_of.ensures }
