-- A node's own answer to a call, among the machine's tests of that call. Assumes nothing.
use Rattle.std.specs.Prelude.{Ok, Err}
use mathlib.Core.Path.{◌≡◌, refl, sym, ap, ◌∙◌}
use mathlib.Core.Bool.{Bool, true, false, not}
use Rattle.records.specs.declared.NodeRecord.{NodeRecord}
use Rattle.records.specs.declared.NodeStep.{NodeStep}
use Rattle.records.specs.declared.Refusal.{Refusal}
use Rattle.records.specs.declared.Refusal.TheVariants.{WrongMode}
use Rattle.records.specs.Node.{Node, is_free}
use Rattle.records.specs.NodeSteps.{NodeAnswer, MeetsAtNode, refusing, sweep_answer}
use Rattle.records.specs.View.{node_of}
use Rattle.machine.specs.Stripe.{Outcome, Local, refused, guard}
use Rattle.machine.specs.Writing.{needing}

-- what an accepted step leaves of the node
pub stepped : {answer : NodeAnswer} {after : Node} {before : NodeRecord} {r : NodeStep} → MeetsAtNode answer after before r → r.answer ≡ Ok tt
    → node_of r.node ≡ after
stepped m q = rw q at m.left

module _ (l : Local) (rest : Outcome Local) where
  -- the node refuses, or the rest decides
  abbrev pub seen : NodeAnswer → Outcome Local
  seen (Ok tt) = rest
  seen (Err why) = refused why l

  pub seen_test : (t : Bool) (why : Refusal) (a : NodeAnswer) → seen (refusing t why a) ≡ guard t why l (seen a)
  unfolding guard
  seen_test true why a = refl
  seen_test false why a = refl

  sweep-seen : seen (sweep_answer l.node) ≡ needing (is_free l.node) l rest
  sweep-seen = seen_test (not (is_free l.node)) (WrongMode l.node.opmode l.node.lmode) (Ok tt)

  module _ (told : NodeAnswer) (e : told ≡ sweep_answer l.node) where
    pub sweep-refused : (why : Refusal) → told ≡ Err why → refused why l ≡ needing (is_free l.node) l rest
    sweep-refused why q = ap seen (sym q ∙ e) ∙ sweep-seen

    pub sweep-accepted : told ≡ Ok tt → rest ≡ needing (is_free l.node) l rest
    sweep-accepted q = ap seen (sym q ∙ e) ∙ sweep-seen
