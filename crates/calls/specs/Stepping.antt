-- A swap's or an add's step of the two records, apart from the bytes: what its contract says. Assumes nothing.
use Rattle.std.specs.Prelude.{◌≡◌, [], Option, None, Some}
use Rattle.records.specs.declared.NodeRecord.{NodeRecord}
use Rattle.records.specs.declared.ClientRecord.{ClientRecord}
use Rattle.records.specs.declared.Refusal.{Refusal}
use Rattle.records.specs.View.{node_of, client_of}
use Rattle.machine.specs.Stripe.{Outcome, Local}
use Rattle.calls.specs.declared.AtNode.{AtNode}
use Rattle.calls.specs.declared.Answer.TheVariants.{Refused}
use Rattle.calls.specs.Answers.{answer_of}

-- refused by the tests, with the very records; else the answer and the records are those of the call's effect
abbrev pub StepsBy : Option Refusal → Outcome Local → NodeRecord → ClientRecord → AtNode → Type 0
StepsBy None effect node client r =
    (answer_of r.answer [] ≡ effect.answer) × ((node_of r.node ≡ effect.after.node) × (client_of r.client ≡ effect.after.client))
StepsBy (Some why) effect node client r = r ≡ record { answer = Refused why; node = node; client = client }

pub record StepsRecords (tests : Option Refusal) (effect : Outcome Local) (node : NodeRecord) (client : ClientRecord) (r : AtNode) : Type 0 where
  pub by : StepsBy tests effect node client r
