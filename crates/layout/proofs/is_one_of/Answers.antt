-- The three tests, in order. Assumes nothing.
use borrow.Author.Tests.{le-leb, lt-leb}
use Rattle.layout.proofs.is_one_of.Goals as goal

pub returns-then-j-ge1 : goal.returns-then-j-ge1
returns-then-j-ge1 c = search (le-leb, lt-leb)

pub returns-else-j-ge1 : goal.returns-else-j-ge1
returns-else-j-ge1 c = search (le-leb, lt-leb)

pub returns-else-n-le-NODES : goal.returns-else-n-le-NODES
returns-else-n-le-NODES c = search (le-leb, lt-leb)
