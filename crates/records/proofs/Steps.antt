-- The returns of a node's calls. Assumes nothing.
use Rattle.std.specs.Prelude.{Ok, Err}
use mathlib.Core.Path.{◌≡◌, refl, ◌∙◌}
use Rattle.records.specs.declared.NodeRecord.{NodeRecord}
use Rattle.records.specs.declared.NodeStep.{NodeStep}
use Rattle.records.specs.declared.Refusal.{Refusal}
use Rattle.records.specs.Node.{Node}
use Rattle.records.specs.NodeSteps.{NodeAnswer, MeetsAtNode}
use Rattle.records.specs.View.{node_of}

module _ {answer : NodeAnswer} {after : Node} {before : NodeRecord} {r : NodeStep} where
  pub meets-refused : {why : Refusal} → r ≡ record { answer = Err why; node = before } → Err why ≡ answer → MeetsAtNode answer after before r
  meets-refused e q = rw e (record { answered = q; left = refl })

  pub meets-accepted : {node : NodeRecord} → r ≡ record { answer = Ok tt; node = node } → Ok tt ≡ answer → node_of node ≡ after → MeetsAtNode answer after before r
  meets-accepted e q n = rw e (record { answered = q; left = n })

  -- as a part of the call answered, which is what the whole answers here
  pub meets-as : {part : NodeAnswer} → MeetsAtNode part after before r → part ≡ answer → MeetsAtNode answer after before r
  meets-as m q = record { answered = m.answered ∙ q; left = m.left }
