-- The highest bit is the last node's; a number that has no meaning has eight. Assumes nothing.
use mathlib.Core.Path.{sym, ap, ◌∙◌}
use Prim.Native.Nat.{◌<◌}
use native.Mathlib.Omega.{arith}
use lib.Count.{leading_le}
use borrow.Author.Rules.{rules}
use Rattle.groups.specs.Groups.{total}
use Rattle.groups.proofs.Ends.{nodes-of, nodes-few, seen, unseen}
use Rattle.groups.proofs.Groups.nodes.Goals as goal

pub returns-then-self-ge-END : goal.returns-then-self-ge-END
unfolding total
returns-then-self-ge-END c = (sym (ap total (unseen c.args.self (omega arith))), search rules)

pub overflow_cast-result : goal.overflow_cast-result
overflow_cast-result c = omega (arith, leading_le 64 c.args.self.ends)

pub overflow_sub-result : goal.overflow_sub-result
overflow_sub-result c = omega (arith, leading_le 64 c.args.self.ends)

pub returns : goal.returns
returns c = let g = c.args.self in
    let small : g.ends < 256 = omega arith in
    let is = nodes-of g.ends small in
    (is ∙ sym (ap total (seen g small)), omega (arith, is, nodes-few g.ends small))
