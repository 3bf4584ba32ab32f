-- A swap or an add from its step of the two records: refused as they are, or accepted with the tables moved. Assumes nothing.
use Rattle.std.specs.Prelude.{Option, None, Some}
use mathlib.Core.Path.{◌≡◌, refl, ap, ◌∙◌}
use mathlib.Core.Logic.{◌≢◌}
use mathlib.Core.Bool.{false}
use mathlib.Core.List.{List, []}
use Prim.Native.Nat.{ℕ}
use native.Mathlib.Omega.{arith}
use Rattle.records.specs.declared.NodeRecord.{NodeRecord}
use Rattle.records.specs.declared.ClientRecord.{ClientRecord}
use Rattle.records.specs.declared.Refusal.{Refusal}
use Rattle.records.specs.Refusals.{number_of}
use Rattle.records.specs.View.{node_of, client_of}
use Rattle.records.proofs.Refusals.{from_one}
use Rattle.machine.specs.Stripe.{Outcome, Local, number}
use Rattle.machine.specs.Writing.{unless}
use Rattle.calls.specs.declared.AtNode.{AtNode}
use Rattle.calls.specs.declared.Answer.{Answer}
use Rattle.calls.specs.declared.Answer.TheVariants.{Accepted, Shown, Added, Done, Rebuilt, Told, Refused}
use Rattle.calls.specs.Answers.{answer_of, is_unchanged, Meets, local}
use Rattle.calls.proofs.Left.{left-free}
use Rattle.calls.proofs.Returns.{refused-at-node}
use Rattle.calls.specs.Stepping.{StepsRecords}

-- the returns of the step: refused by the tests, and past them
module _ {tests : Option Refusal} {effect : Outcome Local} {node : NodeRecord} {client : ClientRecord} {r : AtNode} where
  pub steps-refused : {why : Refusal} → tests ≡ Some why → r ≡ record { answer = Refused why; node = node; client = client } → StepsRecords tests effect node client r
  steps-refused q e = record { by = rw q e }

  pub steps-made : tests ≡ None → answer_of r.answer [] ≡ effect.answer → node_of r.node ≡ effect.after.node → client_of r.client ≡ effect.after.client
      → StepsRecords tests effect node client r
  steps-made q a x y = record { by = rw q (a, (x, y)) }

-- its answer says which
never-zero : {A : Type 0} (why : Refusal) {n : ℕ} → n ≡ number_of why → n ≡ 0 → A
never-zero why e z = absurd (omega (arith, from_one why))

accepted-changes : (a : Answer) → number (answer_of a []) ≡ 0 → is_unchanged a ≡ false
accepted-changes Accepted e = refl
accepted-changes (Shown source) e = refl
accepted-changes Added e = refl
accepted-changes Done e = refl
accepted-changes Rebuilt e = refl
accepted-changes (Told finding) e = refl
accepted-changes (Refused why) e = never-zero why refl e

module _ {effect : Outcome Local} {node : NodeRecord} {client : ClientRecord} {r : AtNode} where
  pub passed : (tests : Option Refusal) → StepsRecords tests effect node client r → number (answer_of r.answer []) ≡ 0 → tests ≡ None
  passed None s e = refl
  passed (Some why) s e = never-zero why (ap (λ r. number (answer_of r.answer [])) s.by) e

  pub call-refused : (blocks differences : List ℕ) (tests : Option Refusal) → (tests ≡ None → number effect.answer ≡ 0) → StepsRecords tests effect node client r
      → number (answer_of r.answer []) ≢ 0
      → Meets (unless tests (local (node_of node) (client_of client) blocks differences) effect) r.answer []
      (local (node_of r.node) (client_of r.client) blocks differences) ((r.node ≡ node) × (r.client ≡ client))
  call-refused blocks differences None zero s ne = absurd (ne (ap number s.by.0 ∙ zero refl))
  call-refused blocks differences (Some why) zero s ne = refused-at-node s.by refl

  pub call-accepted : (blocks differences : List ℕ) (tests : Option Refusal) → StepsRecords tests effect node client r → number (answer_of r.answer []) ≡ 0
      → {t u : List ℕ} → t ≡ effect.after.blocks → u ≡ effect.after.differences
      → Meets (unless tests (local (node_of node) (client_of client) blocks differences) effect) r.answer []
      (local (node_of r.node) (client_of r.client) t u) ((r.node ≡ node) × (r.client ≡ client))
  call-accepted blocks differences None s e t u =
      record { said = rw (s.by.0, s.by.1.0, s.by.1.1, t, u); left = left-free r.answer _ (accepted-changes r.answer e) }
  call-accepted blocks differences (Some why) s e t u = never-zero why (ap (λ r. number (answer_of r.answer [])) s.by) e
