-- `code::nodes::NodeSet::members` meets its contract: after j turns r has the members among the first j nodes. Assumes nothing.
use mathlib.Core.Path.{refl, sym, ap, ◌∙◌}
use native.Mathlib.Omega.{arith}
use lib.ListN.{get_or, length-set}
use borrow.Author.Rules.{rules}
use Rattle.code.specs.Decode.{members_from}
use Rattle.code.specs.View.{node_set_of}
use Rattle.code.proofs.Members.{eighteen, has-place, upto-out, count-in, count-out, upto_all, lists-none, lists-in}
use Rattle.code.proofs.nodes.NodeSet.members.Goals as goal
use Rattle.code.proofs.nodes.NodeSet.members.Goals.{then-contains, else-contains}

pub loop-j-init : goal.loop-j-init
unfolding members_from
loop-j-init c = (search rules, refl, refl, lists-none 18)

pub loop-j-preserved : goal.loop-j-preserved
loop-j-preserved c = let s = node_set_of c.args.self in
    let j = c.loop-j.j in
    let r = c.loop-j.r in
    let inv = c.loop-j.invariant in
    let places = eighteen c.args.self in
    let told = has-place s j ∙ sym c.contains.ensures in
    elim c.if-contains.branch [
      | then-contains w ↦ (
        omega arith,
        rw w.r-is (length-set r _ _ ∙ inv.1),
        w.n-is ∙ count-in j s (omega arith) _ (told ∙ w.if-contains.true) inv.2,
        rw w.r-is (lists-in j s _ r (omega arith) (told ∙ w.if-contains.true) inv.2 (omega arith) inv.3),
      )
      | else-contains w ↦ (
        omega arith,
        rw w.r-is inv.1,
        w.n-is ∙ count-out j s (omega arith) _ (told ∙ w.if-contains.false) inv.2,
        rw (w.r-is, upto-out j s (omega arith) (told ∙ w.if-contains.false)) inv.3,
      )
    ]

pub returns : goal.returns
returns c = λ q.
    let places = eighteen c.args.self in
    c.loop-j.invariant.3 q ∙ ap (λ ms. get_or ms q 0) (upto_all c.loop-j.j (node_set_of c.args.self) (omega arith))
