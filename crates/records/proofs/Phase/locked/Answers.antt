-- The last lock, or one of more. Assumes nothing.
use native.Mathlib.Omega.{arith}
use borrow.Author.Tests.{le-leb, lt-leb}
use Rattle.records.proofs.Clients.{lmodes-more, locked-last, locked-more}
use Rattle.records.proofs.Phase.locked.Goals as goal

pub returns-then-n-j : goal.returns-then-n-j
returns-then-n-j c = let a = c.args in locked-last a.n a.old a.x a.expired (le-leb _ _ c.if-n-j.true)

pub returns-else-n-j : goal.returns-else-n-j
returns-else-n-j c = let a = c.args in
    locked-more a.n a.old a.x a.expired (lt-leb _ _ c.if-n-j.false)
    (lmodes-more a.x a.old c.requires.0 (omega arith) a.expired c.put.result (rw (← c.is_exp.ensures) c.put.ensures))
