-- A byte is two capital digits, and nothing is a dash.
use Rattle.script.specs.Lines.{hex}
use Rattle.script.proofs.writer.put_shown.Goals as goal

pub returns-in-Some : goal.returns-in-Some
unfolding hex
returns-in-Some c = rw c.in-Some.is (rw (c.hex.ensures, c.hex-in-Some.ensures) at c.put-in-Some.ensures)
