-- `script::writer::hex` meets its contract. Assumes nothing.
use borrow.Author.Tests.{le-leb, lt-leb}
use Rattle.script.proofs.writer.hex.Goals as goal

pub returns-then-digit-le9 : goal.returns-then-digit-le9
returns-then-digit-le9 c = rw (le-leb _ 9 c.if-digit-le9.true)

pub returns-else-digit-le9 : goal.returns-else-digit-le9
returns-else-digit-le9 c = rw (lt-leb _ 9 c.if-digit-le9.false)
