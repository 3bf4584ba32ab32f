-- A call that steps the records which it is handed makes the machine's step: a lemma for each shape of call. Assumes nothing.
use mathlib.Core.Path.{◌≡◌, refl, sym, ap, ◌∙◌}
use mathlib.Core.Bool.{true}
use mathlib.Core.List.{List, []}
use Prim.Native.Nat.{ℕ}
use Rattle.machine.specs.Stripe.{Stripe, replacing, Outcome, Local, Whole, answered, node_at, client_at, put_node, on_node, put_whole, on_whole}
use Rattle.basics.specs.Lists.{set_at}
use Rattle.machine.specs.Calls as Machine
use Rattle.machine.specs.Aging as Aging
use Rattle.machine.proofs.Refusals.{refusals-same}
use Rattle.records.specs.declared.Sizes.{Sizes}
use Rattle.records.specs.declared.ClientCall.{ClientCall}
use Rattle.records.specs.declared.NodeRecord.{NodeRecord}
use Rattle.records.specs.declared.ClientRecord.{ClientRecord}
use Rattle.records.specs.Sizes.{sizes_within}
use Rattle.records.specs.Node.{Node}
use Rattle.records.specs.Client.{Client, next_node}
use Rattle.records.specs.View.{node_of, client_of}
use Rattle.calls.specs.declared.StepCall.{StepCall}
use Rattle.calls.specs.declared.StepCall.TheVariants as StepCalls
use Rattle.calls.specs.declared.Answer.{Answer}
use Rattle.calls.specs.declared.AtNode.{AtNode}
use Rattle.calls.specs.declared.OfClient.{OfClient}
use Rattle.calls.specs.declared.OfNode.{OfNode}
use Rattle.calls.specs.Answers.{Meets, Left, answer_of, local, whole}
use Rattle.calls.specs.Calls.{step_of, caller, target, target_by, looks_at_all, looks_by}
use Rattle.calls.proofs.Left.{left-same, left-with, left-map}
use Rattle.stripe.specs.declared.seen.Seen.{Seen}
use Rattle.stripe.specs.Seen.{Sees, applied, keep}
use Rattle.aging.specs.declared.Ticked.{Ticked}
use Rattle.rebuild.specs.declared.Stepped.{Stepped}
use Rattle.rebuild.specs.Promises.{Told, nodes_after, Steps}
use Rattle.step.specs.Steps.{put_back, stripe_with, StepsAs}

-- the records of node j and of client c
on-node : (f : Local → Outcome Local) (j c : ℕ) (s : Stripe) {x : Node} {y : Client} → x ≡ node_at s.nodes j → y ≡ client_at s.clients c
    → (let o = f (local x y s.blocks s.differences) in answered o.answer (put_node j c o.after s)) ≡ on_node j c f s
on-node f j c s ex ey = rw (ex, ey)

pub on-whole : (g : Whole → Outcome Whole) (c : ℕ) (s : Stripe) {y : Client} → y ≡ client_at s.clients c
    → (let o = g (whole s.nodes y s.blocks s.spare) in answered o.answer (put_whole c o.after s)) ≡ on_whole c g s
on-whole g c s ey = rw ey

module _ (z : Sizes) (call : StepCall) (seen : Seen) (node : NodeRecord) (client : ClientRecord) (value blocks spare differences : List ℕ)
    (r : Stepped) (blocks' differences' : List ℕ) where
  -- the very records; a refusal that changes nothing leaves the tables too, since the machine's does
  abbrev same : Type 0
  same = (r.node ≡ node) × ((r.client ≡ client) × (r.change ≡ keep))

  meets : (s : Stripe) → s.blocks ≡ blocks → s.differences ≡ differences
      → answered (answer_of r.answer []) (put_back z call (client_of client) r blocks' differences' s) ≡ Machine.step z (step_of call value) s
      → Left r.answer same
      → Meets (Machine.step z (step_of call value) s) r.answer [] (put_back z call (client_of client) r blocks' differences' s)
      ((r.node ≡ node) × ((r.client ≡ client) × ((r.change ≡ keep) × ((blocks' ≡ blocks) × (differences' ≡ differences)))))
  meets s eb ed said left = record {
    said = said;
    left =
        left-with r.answer
        (λ u l.
        let kept = refusals-same z (step_of call value) s u.why (sym (ap (λ o. o.answer) said) ∙ ap (λ a. answer_of a []) u.is) u.unchanged in (
          l.0,
          (
            l.1.0,
            (
              l.1.1,
              (
                ap (λ o. o.after.blocks) said ∙ ap (λ x. x.blocks) kept ∙ eb,
                ap (λ o. o.after.differences) said ∙ ap (λ x. x.differences) kept ∙ ed,
              ),
            ),
          ),
        )) left;
  }

  -- a call at a node, of a client alone or of a node alone
  pub steps-at : (f : Local → Outcome Local)
      → ((s : Stripe) → Machine.step z (step_of call value) s ≡ on_node (target z call (client_at s.clients (caller call))) (caller call) f s)
      → r.change ≡ keep
      → Meets (f (local (node_of node) (client_of client) blocks differences)) r.answer []
      (local (node_of r.node) (client_of r.client) blocks' differences') ((r.node ≡ node) × (r.client ≡ client))
      → StepsAs z call seen node client value blocks spare differences r blocks' differences'
  steps-at f is k m nodes clients h =
      let s = stripe_with nodes clients blocks spare differences in
      let j = target z call (client_of client) in
      meets s refl refl
      (ap (λ change. answered (answer_of r.answer []) (replacing (applied change (set_at nodes j (node_of r.node))) (set_at clients (caller call) (client_of r.client))
      blocks' spare differences' s)) k
      ∙ ap (λ o. answered o.answer (put_node j (caller call) o.after s)) m.said
      ∙ on-node f j (caller call) s h.node_is h.client_is
      ∙ ap (λ y. on_node (target z call y) (caller call) f s) h.client_is
      ∙ sym (is s))
      (left-map r.answer (λ l. (l.0, (l.1, k))) m.left)

  -- what it handed back is kept beside a change that is none
  pub steps-kept : {q : AtNode} (f : Local → Outcome Local)
      → ((s : Stripe) → Machine.step z (step_of call value) s ≡ on_node (target z call (client_at s.clients (caller call))) (caller call) f s)
      → r ≡ record { answer = q.answer; node = q.node; client = q.client; change = keep }
      → Meets (f (local (node_of node) (client_of client) blocks differences)) q.answer []
      (local (node_of q.node) (client_of q.client) blocks' differences') ((q.node ≡ node) × (q.client ≡ client))
      → StepsAs z call seen node client value blocks spare differences r blocks' differences'
  steps-kept f is e m = steps-at f is (ap (λ (x : Stepped). x.change) e) (rw e m)

-- a call that hands back one record alone, with the other as it was
module _ {o : Outcome Local} {node : NodeRecord} {client : ClientRecord} {blocks differences : List ℕ} {q : AtNode} where
  pub of-client : {r : OfClient} → q ≡ record { answer = r.answer; node = node; client = r.client }
      → Meets o r.answer [] (local (node_of node) (client_of r.client) blocks differences) (r.client ≡ client)
      → Meets o q.answer [] (local (node_of q.node) (client_of q.client) blocks differences) ((q.node ≡ node) × (q.client ≡ client))
  of-client {r} e m = rw e record { said = m.said; left = left-map r.answer (λ l. (refl, l)) m.left }

  pub of_node : {r : OfNode} → q ≡ record { answer = r.answer; node = r.node; client = client }
      → Meets o r.answer [] (local (node_of r.node) (client_of client) blocks differences) (r.node ≡ node)
      → Meets o q.answer [] (local (node_of q.node) (client_of q.client) blocks differences) ((q.node ≡ node) × (q.client ≡ client))
  of_node {r} e m = rw e record { said = m.said; left = left-map r.answer (λ l. (l, refl)) m.left }

  -- and one that asks, and hands back none
  pub of-answer : {a : Answer} → q ≡ record { answer = a; node = node; client = client }
      → Meets o a [] (local (node_of node) (client_of client) blocks differences) (Unit {0})
      → Meets o q.answer [] (local (node_of q.node) (client_of q.client) blocks differences) ((q.node ≡ node) × (q.client ≡ client))
  of-answer {a} e m = rw e record { said = m.said; left = left-same a (refl, refl) }

-- a call on the whole stripe; it is handed no differences
module _ (z : Sizes) (call : StepCall) (seen : Seen) (node : NodeRecord) (client : ClientRecord) (value blocks spare differences : List ℕ)
    (r : Stepped) (blocks' : List ℕ) where
  pub steps_on : (g : Whole → Outcome Whole)
      → ((s : Stripe) → Machine.step z (step_of call value) s ≡ on_whole (caller call) g s)
      → looks_at_all call ≡ true → ((x : Client) → target z call x ≡ next_node x.rebuild)
      → ((nodes : List Node) → Told z (caller call) nodes seen node client
      → Meets (g (whole nodes (client_of client) blocks spare)) r.answer [] (whole (nodes_after nodes client r) (client_of r.client) blocks' spare)
      ((r.node ≡ node) × ((r.client ≡ client) × (r.change ≡ keep))))
      → StepsAs z call seen node client value blocks spare differences r blocks' differences
  steps_on g is looks at m nodes clients h =
      let s = stripe_with nodes clients blocks spare differences in
      let met = m nodes (record { sees = h.seen_is looks; record_is = h.node_is ∙ ap (node_at nodes) (at (client_of client)) }) in
      meets z call seen node client value blocks spare differences r blocks' differences s refl refl
      (ap (λ j. answered (answer_of r.answer []) (replacing (applied r.change (set_at nodes j (node_of r.node))) (set_at clients (caller call) (client_of r.client))
      blocks' spare differences s)) (at (client_of client))
      ∙ ap (λ o. answered o.answer (put_whole (caller call) o.after s)) met.said
      ∙ on-whole g (caller call) s h.client_is
      ∙ sym (is s))
      met.left

-- a tick, which is of no client and at no node: what it says becomes of all nodes
pub steps-tick : (z : Sizes) (seen : Seen) (node : NodeRecord) (client : ClientRecord) (value blocks spare differences : List ℕ) (r : Stepped) {t : Ticked}
    → r ≡ record { answer = t.answer; node = node; client = client; change = t.change }
    → ((c : ℕ) (nodes : List Node) (x : Client) (blocks spare : List ℕ) → (sizes_within z ≡ true → Sees z c nodes seen)
    → Meets (Aging.tick z (whole nodes x blocks spare)) t.answer [] (whole (applied t.change nodes) x blocks spare) (t.change ≡ keep))
    → StepsAs z StepCalls.Tick seen node client value blocks spare differences r blocks differences
unfolding Machine.step set_at
steps-tick z seen node client value blocks spare differences r {t} e m nodes clients h =
    let s = stripe_with nodes clients blocks spare differences in
    let met = m 0 nodes (client_at clients 0) blocks spare (h.seen_is refl) in
    meets z StepCalls.Tick seen node client value blocks spare differences r blocks differences s refl refl
    (ap (λ r. answered (answer_of r.answer []) (put_back z StepCalls.Tick (client_of client) r blocks differences s)) e
    ∙ ap (λ o. answered o.answer (put_whole 0 o.after s)) met.said)
    (rw e (left-map t.answer (λ l. (refl, (refl, l))) met.left))

-- a client's call on the whole stripe that is handed no table
pub steps-by : (z : Sizes) (op : ClientCall) (c : ℕ) (seen : Seen) (node : NodeRecord) (client : ClientRecord) (value blocks spare differences : List ℕ)
    (r : Stepped) (g : Sizes → ℕ → Whole → Outcome Whole)
    → ((s : Stripe) → Machine.step z (Machine.By op c) s ≡ on_whole c (g z c) s)
    → looks_by op ≡ true → ((x : Client) → target_by op z x ≡ next_node x.rebuild) → Steps g z c seen node client r
    → StepsAs z (StepCalls.By op c) seen node client value blocks spare differences r blocks differences
steps-by z op c seen node client value blocks spare differences r g is looks at m =
    steps_on z (StepCalls.By op c) seen node client value blocks spare differences r blocks (g z c) is looks at (λ nodes told. m nodes blocks spare told)
