-- No bit is set. Assumes nothing.
use borrow.Author.Rules.{rules}
use Rattle.groups.specs.View.{ends_of}
use Rattle.groups.proofs.Groups.none.Goals as goal

pub returns : goal.returns
unfolding ends_of
returns c = search rules
