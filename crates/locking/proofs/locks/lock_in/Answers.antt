-- By the phase. Assumes nothing.
use mathlib.Core.Path.{refl}
use mathlib.Core.List.{[], ◌∷◌}
use borrow.Author.Rules.{rules}
use Rattle.basics.specs.Lists.{list_of}
use Rattle.basics.proofs.Lists.{length-list_of}
use Rattle.machine.specs.Stripe.{guard}
use Rattle.machine.specs.Rebuild.{lock, locks}
use Rattle.records.proofs.Limits.{nodes-few}
use Rattle.rebuild.proofs.Limits.{sizes-known}
use Rattle.rebuild.proofs.Phases.{locking, others, out-of-phase}
use Rattle.rebuild.proofs.Stepping.{steps-refused, steps-as, steps-past}
use Rattle.locking.proofs.locks.lock_in.Goals as goal

pub none-requires : goal.none-requires
unfolding lock guard others
none-requires c = search rules

pub lock_node-requires : goal.lock_node-requires
unfolding list_of
lock_node-requires c = let known = sizes-known _ c.requires.sizes in
    (known.nodes_most, (known.nodes_least, (rw c.in-NoRebuild.is, rw c.in-NoRebuild.is)))

pub lock_node-requires-in-Locking : goal.lock_node-requires-in-Locking
lock_node-requires-in-Locking c = let p = c.in-Locking.is in
    (nodes-few _ c.requires.sizes, (locking c.requires p, (rw p, rw (p, length-list_of c.in-Locking.x _))))

pub refused-requires : goal.refused-requires
unfolding lock guard others
refused-requires c = search rules

pub returns-in-NoRebuild : goal.returns-in-NoRebuild
unfolding lock guard others
returns-in-NoRebuild c nodes blocks spare t = steps-past t c.requires (steps-as t (c.lock_node.ensures nodes blocks spare t) (rw c.in-NoRebuild.is))

pub returns-in-Locking : goal.returns-in-Locking
unfolding lock guard others
returns-in-Locking c nodes blocks spare t = steps-past t c.requires (steps-as t (c.lock_node-in-Locking.ensures nodes blocks spare t) (rw c.in-Locking.is))

pub returns-in_default : goal.returns-in_default
unfolding lock guard others
returns-in_default c nodes blocks spare t = steps-past t c.requires (steps-refused t c.refused.ensures (out-of-phase locks (2 ∷ 3 ∷ 4 ∷ 5 ∷ []) c.args.client _ c.in_default.in_default-own.keys3 refl))
