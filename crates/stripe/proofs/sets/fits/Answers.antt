-- By the test. Assumes nothing.
use native.Mathlib.Omega.{arith}
use borrow.Author.Tests.{le-leb, lt-leb}
use Rattle.entries.proofs.Lists.{ids-count}
use Rattle.stripe.proofs.IdLists.{position-keep, keep-count}
use Rattle.stripe.proofs.sets.fits.Goals as goal

pub are_same-requires : goal.are_same-requires
are_same-requires c = let a = c.args in
    (omega arith, omega (arith, keep-count (position-keep a.j) c.at_position.result c.at_position.ensures, ids-count a.theirs))

pub returns-then-j-k : goal.returns-then-j-k
returns-then-j-k c = rw (le-leb c.args.j c.args.k c.if-j-k.true, ← c.at_position.ensures) c.are_same.ensures

pub returns-else-j-k : goal.returns-else-j-k
returns-else-j-k c = rw (lt-leb c.args.j c.args.k c.if-j-k.false) c.are_same-else-j-k.ensures
