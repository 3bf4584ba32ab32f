-- `script::reader::with_none` meets its contract. Assumes nothing.
use Rattle.script.proofs.reader.with_none.Goals as goal

pub returns-in-75 : goal.returns-in-75
returns-in-75 c = λ value. rw c.in-75.is (c.alone.ensures value)
