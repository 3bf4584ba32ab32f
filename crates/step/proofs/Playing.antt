-- A call played on a stripe by value: the records taken out and put back make the machine's step. Assumes nothing.
use mathlib.Core.Path.{◌≡◌, refl, sym, ap, ◌∙◌}
use mathlib.Core.Bool.{true, false}
use mathlib.Core.List.{List, []}
use Prim.Native.Nat.{ℕ}
use native.Mathlib.Omega.{arith}
use lib.ListN.{length}
use Rattle.machine.specs.Stripe as Machine
use Rattle.machine.specs.Stripe.{replacing, Outcome, answered, node_at, client_at, put_whole}
use Rattle.basics.specs.Lists.{set_at}
use Rattle.machine.specs.Reading.{read}
use Rattle.machine.specs.Rebuild as Rebuild
use Rattle.machine.specs.Calls as Calls
use Rattle.machine.specs.Calls.{step}
use Rattle.machine.proofs.Outside.{step-outside}
use Rattle.machine.proofs.Refusals.{refusals-same}
use Rattle.records.specs.declared.Sizes.{Sizes}
use Rattle.records.specs.declared.NodeRecord.{NodeRecord}
use Rattle.records.specs.declared.ClientRecord.{ClientRecord}
use Rattle.records.specs.declared.Refusal.TheVariants.{OutOfLimits}
use Rattle.records.specs.Sizes.{sizes_within}
use Rattle.records.specs.Client.{has_picked}
use Rattle.records.specs.Node.{holder_of}
use Rattle.records.specs.View.{node_of, client_of}
use Rattle.calls.specs.declared.Answer.{Answer}
use Rattle.calls.specs.declared.Answer.TheVariants.{Refused}
use Rattle.calls.specs.declared.Call.{Call}
use Rattle.calls.specs.declared.Call.TheVariants.{Read, Pick, Step}
use Rattle.calls.specs.declared.StepCall.{StepCall}
use Rattle.calls.specs.Answers.{answer_of, is_unchanged, read_as, shown_part}
use Rattle.calls.specs.Calls.{call_of, step_of}
use Rattle.calls.proofs.Left.{refusing, left-same, left-free}
use Rattle.stripe.specs.declared.seen.Seen.{Seen}
use Rattle.stripe.specs.Seen.{Sees, applied}
use Rattle.stripe.specs.View.{nodes_of}
use Rattle.reading.specs.Reading.{Handed}
use Rattle.picking.specs.declared.Picked.{Picked}
use Rattle.picking.specs.Picking.{Picks, seen_whole}
use Rattle.step.specs.declared.Stripe.{Stripe}
use Rattle.step.specs.View.{Stored, clients_of, stripe_of, stored, stored_of}
use Rattle.step.specs.Plays.{Plays}
use Rattle.step.specs.Reads.{Answers, Reads}
use Rattle.step.proofs.Shapes.{on-whole}

-- ---- with sizes outside the limits every call is refused with 1

pub plays-outside : (z : Sizes) (call : Call) (value : List ℕ) (x : Stripe) (blocks spare differences : List ℕ) → sizes_within z ≡ false
    → Plays z call value (stored x blocks spare differences) (Refused OutOfLimits) (stored x blocks spare differences)
plays-outside z call value x blocks spare differences e =
    record { said = step-outside z (stripe_of z x blocks spare differences) e (call_of call value); left = refl }

pub never : {P : Type 0} → false ≡ true → P
never e = let z : ◌≡◌ {A = ℕ} 0 1 = cc in absurd (omega arith)

-- ---- a read, which leaves all

pub plays-read : (z : Sizes) (i : ℕ) (x : Stripe) (value blocks spare differences : List ℕ) (a : Answer) → Answers z i x (length blocks) (length spare) a
    → Plays z (Read i) value (stored x blocks spare differences) a (stored x blocks spare differences)
plays-read z i x value blocks spare differences a m =
    record { said = m blocks spare differences refl refl; left = left-same a refl }

-- sizes outside the limits
pub answers-outside : (z : Sizes) (i : ℕ) (x : Stripe) (blocks spare : ℕ) → sizes_within z ≡ false → Answers z i x blocks spare (Refused OutOfLimits)
answers-outside z i x blocks spare e live kept differences u v = step-outside z (stripe_of z x live kept differences) e (Calls.Read i)

-- the records taken out
pub answers : (z : Sizes) (i : ℕ) (x : Stripe) (blocks spare : ℕ) (a : Answer) {seen : Seen} {node : NodeRecord} {client : ClientRecord} {c : ℕ}
    → node_of node ≡ node_at (nodes_of z.n x.nodes) i → c ≡ holder_of (node_of node) → client_of client ≡ client_at (clients_of z.m x.clients) c
    → (has_picked (client_of client).rebuild ≡ true → sizes_within z ≡ true → Sees z c (nodes_of z.n x.nodes) seen)
    → ((s : Machine.Stripe) → Handed z i s seen node client blocks spare → read_as a z.b i s ≡ read z i s) → Answers z i x blocks spare a
unfolding step
answers z i x blocks spare a en ec em es m live kept differences u v =
    m (stripe_of z x live kept differences)
    (record {
      node_is = en;
      client_is = em ∙ ap (client_at (clients_of z.m x.clients)) ec;
      seen_is = λ d w. rw (← ec) (es d w);
      blocks_are = u;
      spare_is = v;
    })

-- the part beside the answer
pub reads : (z : Sizes) (i : ℕ) (x : Stripe) (blocks spare : List ℕ) (a : Answer) (part : List ℕ) → Answers z i x (length blocks) (length spare) a
    → part ≡ shown_part a z.b i blocks spare → Reads z i x blocks spare a part
reads z i x blocks spare a part m e =
    record {
      said = λ d. ap (λ v. answered (answer_of a v) (stripe_of z x blocks spare d)) e ∙ m blocks spare d refl refl;
      shows = e;
    }

-- ---- a call that may change the stripe

-- unchanged, it leaves the very stripe, since the machine's does
kept : (z : Sizes) (call : Calls.Call) (s t : Machine.Stripe) (a : Answer) → answered (answer_of a []) t ≡ step z call s → is_unchanged a ≡ true → t ≡ s
kept z call s t a said e =
    let u = refusing a e in
    ap (λ o. o.after) said
    ∙ refusals-same z call s u.why (sym (ap (λ o. o.answer) said) ∙ ap (λ b. answer_of b []) u.is) u.unchanged

module _ (z : Sizes) (value : List ℕ) (x : Stripe) (blocks spare differences : List ℕ) (a : Answer) where
  abbrev s : Machine.Stripe
  s = stripe_of z x blocks spare differences

  -- the stripe that it was handed, with the tables of t
  abbrev with : Machine.Stripe → Stored
  with t = stored x t.blocks t.spare t.differences

  module _ (t : Machine.Stripe) (e : is_unchanged a ≡ true) where
    same-said : {o : Outcome Machine.Stripe} → t ≡ s → answered (answer_of a []) t ≡ o → answered (answer_of a []) (stored_of z (with t)) ≡ o
    same-said k said = ap (λ u. answered (answer_of a []) (stored_of z (with u))) k ∙ sym (ap (answered (answer_of a [])) k) ∙ said

    pub steps-same : (call : StepCall) → answered (answer_of a []) t ≡ step z (step_of call value) s
        → Plays z (Step call) value (stored x blocks spare differences) a (with t)
    steps-same call said =
        let k = kept z (step_of call value) s t a said e in record { said = same-said k said; left = left-same a (ap with k) }

    pub pick_same : (c : ℕ) → answered (answer_of a []) t ≡ step z (Calls.Pick c) s
        → Plays z (Pick c) value (stored x blocks spare differences) a (with t)
    pick_same c said =
        let k = kept z (Calls.Pick c) s t a said e in record { said = same-said k said; left = left-same a (ap with k) }

  -- else the stripe p has the records of t
  module _ (t : Machine.Stripe) (e : is_unchanged a ≡ false) (p : Stripe) (en : nodes_of z.n p.nodes ≡ t.nodes) (ec : clients_of z.m p.clients ≡ t.clients) where
    abbrev put : Stored
    put = stored p t.blocks t.spare t.differences

    put-said : {o : Outcome Machine.Stripe} → answered (answer_of a []) t ≡ o → answered (answer_of a []) (stored_of z put) ≡ o
    put-said said =
        (λ i. answered (answer_of a []) (replacing (en i) (ec i) t.blocks t.spare t.differences t)) ∙ said

    pub steps-put : (call : StepCall) → answered (answer_of a []) t ≡ step z (step_of call value) s
        → Plays z (Step call) value (stored x blocks spare differences) a put
    steps-put call said = record { said = put-said said; left = left-free a (put ≡ stored x blocks spare differences) e }

    pub pick_put : (c : ℕ) → answered (answer_of a []) t ≡ step z (Calls.Pick c) s
        → Plays z (Pick c) value (stored x blocks spare differences) a put
    pick_put c said = record { said = put-said said; left = left-free a (put ≡ stored x blocks spare differences) e }

-- what a pick by client c hands back, put into the stripe
abbrev pub picked_stripe : ℕ → Picked → List ℕ → Machine.Stripe → Machine.Stripe
picked_stripe c r spare s =
    replacing (applied r.change s.nodes) (set_at s.clients c (client_of r.client)) s.blocks spare s.differences s

pub picks : (z : Sizes) (c : ℕ) (x : Stripe) (blocks spare differences spare' : List ℕ) (client : ClientRecord) (r : Picked)
    → client_of client ≡ client_at (clients_of z.m x.clients) c
    → Picks (Rebuild.pick z c (seen_whole z x.nodes client blocks spare)) z x.nodes client blocks spare' r
    → let s = stripe_of z x blocks spare differences in answered (answer_of r.answer []) (picked_stripe c r spare' s) ≡ step z (Calls.Pick c) s
unfolding step
picks z c x blocks spare differences spare' client r e m =
    let s = stripe_of z x blocks spare differences in
    ap (λ o. answered o.answer (put_whole c o.after s)) m.said ∙ on-whole (Rebuild.pick z c) c s e
