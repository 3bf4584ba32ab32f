-- By cases of the hand. Assumes nothing.
use Rattle.serial.proofs.clients.hand_bytes.Goals as goal

pub returns-in-Some : goal.returns-in-Some
returns-in-Some c = rw c.in-Some.is c.write_bytes.ensures
