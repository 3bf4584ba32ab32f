-- By the test. Assumes nothing.
use Prim.Native.Nat.{◌+◌, ◌*◌}
use borrow.Author.Tests.{le-leb, lt-leb}
use Rattle.records.proofs.ClientRecord.sweep_on.Goals as goal

pub returns-then-n-self : goal.returns-then-n-self
returns-then-n-self c = let a = c.args in rw (c.none.ensures, le-leb (2 * a.n) (a.self.round + 1) c.if-n-self.true)

pub returns-else-n-self : goal.returns-else-n-self
returns-else-n-self c = let a = c.args in rw (lt-leb (2 * a.n) (a.self.round + 1) c.if-n-self.false)
