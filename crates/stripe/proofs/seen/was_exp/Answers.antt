-- Node i + 1 is at place i; past the 18 there is none. Assumes nothing.
use mathlib.Core.Path.{sym, ◌∙◌}
use Prim.Native.Nat.{suc}
use native.Mathlib.Numerals.{add-one}
use native.Mathlib.Omega.{arith}
use borrow.Author.Tests.{le-ltb}
use Rattle.code.specs.View.{node_set_of}
use Rattle.code.proofs.Members.{eighteen}
use Rattle.code.proofs.NodeSets.{has-past}
use Rattle.stripe.proofs.seen.was_exp.Goals as goal

pub returns-then-i-lt-NODES : goal.returns-then-i-lt-NODES
returns-then-i-lt-NODES c = c.contains.ensures ∙ rw (add-one c.args.i)

pub returns-else-i-lt-NODES : goal.returns-else-i-lt-NODES
returns-else-i-lt-NODES c = let a = c.args in
    le-ltb a.i 18 (omega arith) ∙ sym (has-past (node_set_of a.expired) (suc a.i) (omega (arith, eighteen a.expired)))
