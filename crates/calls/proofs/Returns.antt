-- The returns of the calls at one node: the tests of the machine in order, and a refusal with the very records. Assumes nothing.
use mathlib.Core.Path.{◌≡◌, refl, sym, ◌∙◌}
use mathlib.Core.Bool.{Bool, true, false, not}
use mathlib.Core.List.{List, []}
use Prim.Native.Nat.{ℕ}
use lib.Dec.{eqb}
use borrow.Author.Tests.{eq-eqb, ne_eqb, not-false}
use Rattle.records.specs.declared.Refusal.{Refusal}
use Rattle.records.specs.declared.NodeRecord.{NodeRecord}
use Rattle.records.specs.declared.ClientRecord.{ClientRecord}
use Rattle.records.specs.Node.{Node}
use Rattle.records.specs.Client.{Client}
use Rattle.records.specs.View.{node_of, client_of}
use Rattle.machine.specs.Stripe as Machine
use Rattle.machine.specs.Stripe.{Outcome, Local, answered, refused, guard}
use Rattle.calls.specs.declared.AtNode.{AtNode}
use Rattle.calls.specs.declared.OfClient.{OfClient}
use Rattle.calls.specs.declared.OfNode.{OfNode}
use Rattle.calls.specs.declared.Answer.TheVariants.{Accepted, Refused}
use Rattle.calls.specs.Answers.{Meets, local}
use Rattle.calls.proofs.Left.{unchanged}

-- ---- the tests

-- a test that the code passes is one that holds
pub holds : {t r : Bool} → r ≡ t → not r ≡ false → t ≡ true
holds {r = r} e h = sym e ∙ not-false r h

-- r is the outcome of the test t; where the call is refused by the test, and where the rest decides
module _ (t r : Bool) (e : r ≡ t) {S : Type 0} (why : Refusal) (s : S) (rest x : Outcome S) where
  pub guard-on : r ≡ true → x ≡ refused why s → x ≡ guard t why s rest
  unfolding guard
  guard-on h q = q ∙ rw (← e, h)

  pub guard-off : r ≡ false → x ≡ rest → x ≡ guard t why s rest
  unfolding guard
  guard-off h q = q ∙ rw (← e, h)

  pub guard-not-on : not r ≡ true → x ≡ refused why s → x ≡ guard (not t) why s rest
  unfolding guard
  guard-not-on h q = q ∙ rw (← e, h)

  pub guard-not-off : not r ≡ false → x ≡ rest → x ≡ guard (not t) why s rest
  unfolding guard
  guard-not-off h q = q ∙ rw (← e, not-false r h)

-- the test is one of numbers
module _ (a b : ℕ) {S : Type 0} (why : Refusal) (s : S) (rest x : Outcome S) where
  pub guard-ne : (a ≡ b → ⊥) → x ≡ refused why s → x ≡ guard (not (eqb a b)) why s rest
  unfolding guard
  guard-ne h q = q ∙ rw (ne_eqb a b h)

  pub guard-eq : a ≡ b → x ≡ rest → x ≡ guard (not (eqb a b)) why s rest
  unfolding guard
  guard-eq h q = q ∙ rw (eq-eqb a b h)

pub ruleset guards = (refl, guard-on, guard-off, guard-not-on, guard-not-off, guard-ne, guard-eq)

-- ---- refusals

module _ {outcome : Outcome Local} {why : Refusal} {blocks differences : List ℕ} where
  pub refused-at-node : {r : AtNode} {node : NodeRecord} {client : ClientRecord} → r ≡ record { answer = Refused why; node = node; client = client }
      → refused why (local (node_of node) (client_of client) blocks differences) ≡ outcome
      → Meets outcome r.answer [] (local (node_of r.node) (client_of r.client) blocks differences) ((r.node ≡ node) × (r.client ≡ client))
  refused-at-node e q = rw e (record { said = q; left = unchanged why (refl, refl) })

  pub refused-of-client : {r : OfClient} {node : Node} {client : ClientRecord} → r ≡ record { answer = Refused why; client = client }
      → refused why (local node (client_of client) blocks differences) ≡ outcome
      → Meets outcome r.answer [] (local node (client_of r.client) blocks differences) (r.client ≡ client)
  refused-of-client e q = rw e (record { said = q; left = unchanged why refl })

  pub refused-of-node : {r : OfNode} {node : NodeRecord} {client : Client} → r ≡ record { answer = Refused why; node = node }
      → refused why (local (node_of node) client blocks differences) ≡ outcome
      → Meets outcome r.answer [] (local (node_of r.node) client blocks differences) (r.node ≡ node)
  refused-of-node e q = rw e (record { said = q; left = unchanged why refl })

-- ---- acceptance: what is left is what the machine leaves

module _ {outcome : Outcome Local} {x x' : Node} {y y' : Client} {t t' u u' : List ℕ} {same : Type 0} where
  pub accepted : x ≡ x' → y ≡ y' → t ≡ t' → u ≡ u' → answered Machine.Accepted (local x' y' t' u') ≡ outcome → Meets outcome Accepted [] (local x y t u) same
  accepted node client blocks differences q = record { said = rw (node, client, blocks, differences) q; left = tt }
