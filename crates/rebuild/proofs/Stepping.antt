-- The returns of the calls that step one node's record. Assumes nothing.
use Rattle.std.specs.Prelude.{Ok, Err}
use mathlib.Core.Path.{◌≡◌, refl, sym, ap, ◌∙◌}
use mathlib.Core.Bool.{Bool, true, false, cond, not}
use mathlib.Core.List.{List, []}
use Prim.Native.Nat.{ℕ}
use Rattle.machine.specs.Stripe.{Outcome, Whole, answered, refused, guard, node_at}
use Rattle.basics.specs.Lists.{set_at}
use Rattle.machine.specs.Rebuild.{out_of_limits}
use Rattle.machine.proofs.View.{set_same}
use Rattle.records.specs.NodeSteps.{NodeAnswer}
use Rattle.records.specs.declared.Sizes.{Sizes}
use Rattle.records.specs.declared.NodeRecord.{NodeRecord}
use Rattle.records.specs.declared.ClientRecord.{ClientRecord}
use Rattle.records.specs.declared.Refusal.{Refusal}
use Rattle.records.specs.declared.Refusal.TheVariants.{OutOfLimits, OutOfRange, NotHeld}
use Rattle.records.specs.declared.Phase.{Phase}
use Rattle.records.specs.Sizes.{is_client}
use Rattle.records.specs.Node.{Node, failed_node}
use Rattle.records.specs.Client.{next_node}
use Rattle.records.specs.View.{node_of, rebuild_of, client_of}
use Rattle.stripe.specs.declared.seen.Seen.{Seen}
use Rattle.stripe.specs.declared.seen.Change.{Change}
use Rattle.stripe.specs.Seen.{keep, applied}
use Rattle.calls.specs.declared.Answer.{Answer}
use Rattle.calls.specs.declared.Answer.TheVariants.{Refused}
use Rattle.calls.specs.Answers.{Left, answer_of, whole}
use Rattle.calls.proofs.Left.{unchanged}
use Rattle.rebuild.specs.declared.Stepped.{Stepped}
use Rattle.rebuild.specs.Promises.{own, Told, Stepping, Admitted, entrance}
use Rattle.rebuild.proofs.Limits.{passed, failed, limits-seen}

-- what the node's answer tells of it
pub held-accepted : (t : Bool) → cond {A = NodeAnswer} (not t) (Err NotHeld) (Ok tt) ≡ Ok tt → t ≡ true
held-accepted true e = refl
held-accepted false e = cc

pub held-refused : (t : Bool) {why : Refusal} → cond {A = NodeAnswer} (not t) (Err NotHeld) (Ok tt) ≡ Err why → t ≡ false
held-refused true e = cc
held-refused false e = refl

-- the node that the rebuild is at, by its phase
pub own_in : (y : ClientRecord) {p : Phase} → y.phase ≡ p → own y ≡ next_node (rebuild_of p)
own_in y e = rw e

-- a call with `rest` after its two tests
abbrev pub called : Sizes → ℕ → Whole → Outcome Whole → Outcome Whole
called z c w rest = guard (out_of_limits z w) OutOfLimits w (guard (not (is_client z c)) OutOfRange w rest)

module _ {z : Sizes} {c : ℕ} {nodes : List Node} {s : Seen} {x : NodeRecord} {y : ClientRecord} (t : Told z c nodes s x y) where
  -- the call's own node put back as it was
  pub put_back : set_at nodes (own y) (node_of x) ≡ nodes
  put_back = ap (set_at nodes (own y)) t.record_is ∙ set_same {A = Node} (λ n. n) failed_node nodes (own y)

  module _ {blocks spare : List ℕ} {o : Outcome Whole} {r : Stepped} where
    -- refused, with the very records
    pub steps-refused : {why : Refusal} → r ≡ record { answer = Refused why; node = x; client = y; change = keep }
        → refused why (whole nodes (client_of y) blocks spare) ≡ o → Stepping o nodes x y blocks spare r
    steps-refused {why} e q = rw e (record { said = rw put_back q; left = unchanged why (refl, (refl, refl)) })

    -- answered, with a record that stays, and the others changed
    pub steps-left : {a : Answer} {y' : ClientRecord} {change : Change} → r ≡ record { answer = a; node = x; client = y'; change = change }
        → answered (answer_of a []) (whole (applied change nodes) (client_of y') blocks spare) ≡ o
        → Left a ((x ≡ x) × ((y' ≡ y) × (change ≡ keep))) → Stepping o nodes x y blocks spare r
    steps-left e q l = rw e (record { said = rw put_back q; left = l })

    -- answered, with another record that is seen as x', and no other changed
    pub steps-made : {a : Answer} {node : NodeRecord} {y' : ClientRecord} {x' : Node} → r ≡ record { answer = a; node = node; client = y'; change = keep }
        → node_of node ≡ x' → answered (answer_of a []) (whole (set_at nodes (own y) x') (client_of y') blocks spare) ≡ o
        → Left a ((node ≡ x) × ((y' ≡ y) × (keep ≡ keep))) → Stepping o nodes x y blocks spare r
    steps-made e n q l = rw e (record { said = rw n q; left = l })

    -- as a part of the call steps, which is what the whole does here
    pub steps-as : {part : Outcome Whole} → Stepping part nodes x y blocks spare r → part ≡ o → Stepping o nodes x y blocks spare r
    steps-as m q = record { said = m.said ∙ q; left = m.left }

  -- past its tests a call is what is left of it
  pub steps-past : {blocks spare : List ℕ} {r : Stepped} {rest : Outcome Whole} → Admitted z c s y → Stepping rest nodes x y blocks spare r
      → Stepping (called z c (whole nodes (client_of y) blocks spare) rest) nodes x y blocks spare r
  steps-past {blocks} {spare} {rest = rest} a m =
      let w = whole nodes (client_of y) blocks spare in
      steps-as m (sym (passed w rest (out_of_limits z w) (not (is_client z c)) (rw (← limits-seen t.sees y blocks spare, a.sizes, a.nodes, a.client, a.number))))

  -- a test of the own node
  pub asked : (p : Node → Bool) {b : Bool} → p (node_of x) ≡ b → p (node_at nodes (own y)) ≡ b
  asked p q = sym (ap p t.record_is) ∙ q

  -- a call whose tests answered a
  module _ {a : NodeAnswer} (e : a ≡ entrance z c s y) {blocks spare : List ℕ} {r : Stepped} where
    pub steps-turned : (rest : Outcome Whole) {why : Refusal} → a ≡ Err why
        → r ≡ record { answer = Refused why; node = x; client = y; change = keep }
        → Stepping (called z c (whole nodes (client_of y) blocks spare) rest) nodes x y blocks spare r
    steps-turned rest {why} q is =
        let w = whole nodes (client_of y) blocks spare in
        steps-refused is (sym (failed w rest why (out_of_limits z w) (not (is_client z c)) (rw (← limits-seen t.sees y blocks spare) (sym e ∙ q))))

    pub steps_on : {rest : Outcome Whole} → a ≡ Ok tt → Stepping rest nodes x y blocks spare r
        → Stepping (called z c (whole nodes (client_of y) blocks spare) rest) nodes x y blocks spare r
    steps_on {rest} q m =
        let w = whole nodes (client_of y) blocks spare in
        steps-as m (sym (passed w rest (out_of_limits z w) (not (is_client z c)) (rw (← limits-seen t.sees y blocks spare) (sym e ∙ q))))
