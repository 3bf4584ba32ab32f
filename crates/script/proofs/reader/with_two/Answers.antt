-- `script::reader::with_two` meets its contract. Assumes nothing.
use Rattle.script.proofs.reader.with_two.Goals as goal

pub returns-in-65 : goal.returns-in-65
returns-in-65 c = λ value. rw c.in-65.is (c.at.ensures value)

pub returns-in-72 : goal.returns-in-72
returns-in-72 c = λ value. rw c.in-72.is (c.at-in-72.ensures value)
