-- By the test. Assumes nothing.
use borrow.Author.Tests.{le-leb, lt-leb}
use Rattle.restoring.proofs.settles.settle_answer.Goals as goal

pub returns-then-n-j : goal.returns-then-n-j
returns-then-n-j c = let a = c.args in rw (le-leb a.n a.j c.if-n-j.true)

pub returns-else-n-j : goal.returns-else-n-j
returns-else-n-j c = let a = c.args in rw (lt-leb a.n a.j c.if-n-j.false)
