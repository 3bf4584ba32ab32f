-- `script::reader::with_one` meets its contract. Assumes nothing.
use Rattle.script.proofs.reader.with_one.Goals as goal

pub returns-in-68 : goal.returns-in-68
returns-in-68 c = λ value. rw c.in-68.is (c.by.ensures value)

pub returns-in-71 : goal.returns-in-71
returns-in-71 c = λ value. rw c.in-71.is (c.by-in-71.ensures value)

pub returns-in-82 : goal.returns-in-82
returns-in-82 c = λ value. rw c.in-82.is (c.alone.ensures value)

pub returns-in-76 : goal.returns-in-76
returns-in-76 c = λ value. rw c.in-76.is (c.by-in-76.ensures value)

pub returns-in-80 : goal.returns-in-80
returns-in-80 c = λ value. rw c.in-80.is (c.alone-in-80.ensures value)

pub returns-in-79 : goal.returns-in-79
returns-in-79 c = λ value. rw c.in-79.is (c.by-in-79.ensures value)

pub returns-in-73 : goal.returns-in-73
returns-in-73 c = λ value. rw c.in-73.is (c.by-in-73.ensures value)

pub returns-in-87 : goal.returns-in-87
returns-in-87 c = λ value. rw c.in-87.is (c.by-in-87.ensures value)

pub returns-in-84 : goal.returns-in-84
returns-in-84 c = λ value. rw c.in-84.is (c.by-in-84.ensures value)

pub returns-in-85 : goal.returns-in-85
returns-in-85 c = λ value. rw c.in-85.is (c.by-in-85.ensures value)

pub returns-in-81 : goal.returns-in-81
returns-in-81 c = λ value. rw c.in-81.is (c.by-in-81.ensures value)

pub returns-in-67 : goal.returns-in-67
returns-in-67 c = λ value. rw c.in-67.is (c.by-in-67.ensures value)

pub returns-in-90 : goal.returns-in-90
returns-in-90 c = λ value. rw c.in-90.is (c.alone-in-90.ensures value)
