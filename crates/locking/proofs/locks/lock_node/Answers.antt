-- As the node answers: it is put back locked, or the lmodes that are remembered are given back. Assumes nothing.
use Rattle.std.specs.Prelude.{Ok, Err}
use mathlib.Core.Path.{◌≡◌, refl, sym, ap, ◌∙◌}
use mathlib.Core.Bool.{Bool, true, false, cond, ◌||◌}
use Prim.Native.Nat.{◌+◌}
use native.Mathlib.Omega.{arith}
use lib.ListN.{length}
use Rattle.basics.proofs.Lists.{length-list_of}
use Rattle.machine.specs.Stripe.{node_at}
use Rattle.machine.specs.Rebuild.{lock_node}
use Rattle.records.specs.declared.Refusal.{Refusal}
use Rattle.records.specs.declared.Refusal.TheVariants.{Locked}
use Rattle.records.specs.NodeSteps.{NodeAnswer}
use Rattle.records.specs.Node.{Node, is_l0, is_l1, locked_by}
use Rattle.records.specs.View.{node_of}
use Rattle.rebuild.proofs.Stepping.{steps-made, steps-left}
use Rattle.locking.proofs.locks.lock_node.Goals as goal

abbrev is_locked : Node → Bool
is_locked x = is_l0 x.lmode || is_l1 x.lmode

free : (t : Bool) → cond {A = NodeAnswer} t (Err Locked) (Ok tt) ≡ Ok tt → t ≡ false
free true e = cc
free false e = refl

held : (t : Bool) {why : Refusal} → cond {A = NodeAnswer} t (Err Locked) (Ok tt) ≡ Err why → t ≡ true
held true e = refl
held false e = cc

is-locked : (t : Bool) {why : Refusal} → cond {A = NodeAnswer} t (Err Locked) (Ok tt) ≡ Err why → why ≡ Locked
is-locked true e = cc
is-locked false e = cc

pub lock-requires : goal.lock-requires
lock-requires c = let unlocked = free (is_locked (node_of c.args.node)) (sym c.lock-step.ensures.answered ∙ c.in-Ok.is) in
    let count = ap length c.requires.1.1.0 ∙ length-list_of c.args.x _ in
    (cc, omega (arith, c.requires, count))

pub returns-in-Ok : goal.returns-in-Ok
unfolding lock_node
returns-in-Ok c nodes blocks spare t = let a = c.args in
    let at : node_of a.node ≡ node_at nodes (a.x + 1) = t.record_is ∙ ap (node_at nodes) c.requires.1.1.1 in
    let left = (rw c.in-Ok.is at c.lock-step.ensures.left) ∙ ap (locked_by a.c) at in
    steps-made t c.answered.ensures left
    (rw (
      c.lock.ensures,
      c.requires.1.1.1,
      c.requires.1.1.0,
      length-list_of a.x _,
      sym (ap is_locked at) ∙ free (is_locked (node_of a.node)) (sym c.lock-step.ensures.answered ∙ c.in-Ok.is),
      ← ap (λ x. x.lmode) at,
    ))
    _

pub returns-in-Err : goal.returns-in-Err
unfolding lock_node
returns-in-Err c nodes blocks spare t = let a = c.args in
    let at : node_of a.node ≡ node_at nodes (a.x + 1) = t.record_is ∙ ap (node_at nodes) c.requires.1.1.1 in
    let answer = sym c.lock-step.ensures.answered ∙ c.in-Err.is in
    let why = is-locked (is_locked (node_of a.node)) answer in
    steps-left t refl
    (rw (
      why,
      c.restore.ensures,
      c.end_rebuild.ensures,
      c.requires.1.1.0,
      length-list_of a.x _,
      sym (ap is_locked at) ∙ held (is_locked (node_of a.node)) answer,
    ))
    (rw why tt)
