-- One turn of a call, on the parts of the stripe that it has come to: the machine's step of that stripe, and nothing of the others. Assumes nothing.
use mathlib.Core.Bool.{true}
use mathlib.Core.List.{List, []}
use mathlib.Core.Path.{◌≡◌, refl, sym, ap, subst, transport, ◌∙◌}
use Prim.Native.Nat.{ℕ, suc, ◌-◌, ◌*◌, ◌≤◌, ◌<◌}
use native.Mathlib.Nat.{mul-le-mul}
use native.Mathlib.Omega.{arith}
use lib.ListN.{length, drop, take, length-drop, length-map}
use lib.Seq.{length-take-le, take-length}
use borrow.Author.Tests.{eq-eqb, eqb-true}
use Rattle.basics.specs.Lists.{element_at}
use Rattle.basics.proofs.Lists.{get_or-list_of, length-list_of}
use Rattle.blocks.specs.Blocks.{block, part}
use Rattle.calls.specs.declared.Answer.{Answer}
use Rattle.calls.specs.declared.StepCall.{StepCall}
use Rattle.calls.specs.declared.StepCall.TheVariants.{Swap, Fail, Due, Tick, At, By}
use Rattle.calls.specs.Answers.{Left, answer_of}
use Rattle.calls.specs.Calls.{step_of}
use Rattle.calls.proofs.Left.{Refusing, left-map, left-with}
use Rattle.machine.specs.Calls.{Call, step}
use Rattle.machine.specs.Calls as Calls
use Rattle.machine.specs.Stripe.{Stripe, answered, guard}
use Rattle.machine.proofs.Refusals.{refusals-same}
use Rattle.parts.specs.Inside.{Only, part_in}
use Rattle.records.specs.declared.ClientRecord.{ClientRecord}
use Rattle.records.specs.declared.NodeRecord.{NodeRecord}
use Rattle.shelf.specs.Shelf.{PicksOnly, StepsLent}
use Rattle.taking.specs.Lent.{on_tables, stripe_in}
use Rattle.taking.specs.Table.{clients_in, nodes_in}
use Rattle.layout.specs.Layout.{node_for}
use Rattle.records.specs.View.{client_of, node_of}
use Rattle.volume.specs.Volume.{call_in, given_fits, no_stripe, stripe_at}
use Rattle.tables.specs.declared.Volume.{Volume}
use Rattle.routing.specs.declared.VolumeCall.{VolumeCall}
use Rattle.routing.specs.declared.VolumeCall.TheVariants.{Pick, Step}
use Rattle.routing.specs.declared.Request.{Request}
use Rattle.volumeshelf.specs.Entry.{Makes, OnParts, PicksPart, StepsPart, Tables, value_part}
use Rattle.tables.specs.Parts.{part_most, part_of, table_blocks, table_differences}
use Rattle.volumeshelf.specs.Volumes.{call_of, of_stripe, volume_in}
use Rattle.routing.specs.Walks.{pick_request_of, step_for, step_request_of}
use Rattle.tables.proofs.Within.{Small, blocks-table, differences-table}
use Rattle.volumeshelf.proofs.Ranges.{fits_in, others_same, part-is, table_same}

abbrev pub Lent : Type 0
Lent = Tables

-- the call on stripe s
abbrev pub on_stripe : Volume → VolumeCall → ℕ → Request
on_stripe v call s = record { volume = v; stripe = s; call = call }

-- the tables have their lengths
pub record Fit (v : Volume) (t : Lent) : Type 0 where
  pub nodes : length t.nodes ≡ v.stripes * v.z.n
  pub clients : length t.clients ≡ v.stripes * v.z.m
  pub blocks : length t.blocks ≡ v.stripes * (v.z.n * v.z.b)
  pub spare : length t.spare ≡ v.stripes * (v.z.n * v.z.b)
  pub differences : length t.differences ≡ v.stripes * (v.z.m * v.z.b)

-- stripe s of the tables
abbrev pub stripe_of : Volume → Lent → ℕ → Stripe
stripe_of v t s =
    stripe_in (of_stripe s v.z.n t.nodes) (of_stripe s v.z.m t.clients) (of_stripe s (v.z.n * v.z.b) t.blocks)
    (of_stripe s (v.z.n * v.z.b) t.spare) (of_stripe s (v.z.m * v.z.b) t.differences)

-- the turn at stripe s
pub record Turned (v : Volume) (call : Call) (s : ℕ) (t : Lent) (a : Answer) (t' : Lent) : Type 0 where
  pub fit : Fit v t'
  pub said : answered (answer_of a []) (stripe_of v t' s) ≡ step v.z (call_in v.z s call) (stripe_of v t s)
  pub others : (r : ℕ) → (r ≡ s → ⊥) → stripe_of v t' r ≡ stripe_of v t r
  pub left : Left a (t' ≡ t)

-- the volume that the tables are
pub stripe-count : (v : Volume) (t : Lent) → length (volume_in v t.nodes t.clients t.blocks t.spare t.differences).stripes ≡ v.stripes
stripe-count v t = length-list_of v.stripes (stripe_of v t)

pub stripe-at : (v : Volume) (t : Lent) (s : ℕ) → s < v.stripes
    → stripe_at (volume_in v t.nodes t.clients t.blocks t.spare t.differences) s ≡ stripe_of v t s
unfolding element_at
stripe-at v t s l = get_or-list_of v.stripes (stripe_of v t) s no_stripe l

pub stripe-length : {X : Type 0} (s each stripes : ℕ) (xs : List X) → s < stripes → length xs ≡ stripes * each → length (of_stripe s each xs) ≡ each
stripe-length s each stripes xs l long = length-take-le each (drop (s * each) xs) (rw (length-drop, long) (omega (arith, fits_in s each stripes l)))

module _ (v : Volume) (small : Small v) (s : ℕ) (in-range : s < v.stripes) where
  n-small : v.z.n ≤ part_most
  n-small = omega (arith, small.n)

  m-small : v.z.m ≤ part_most
  m-small = omega (arith, small.m)

  blocks-small : v.z.n * v.z.b ≤ part_most
  blocks-small = mul-le-mul small.n small.b

  differences-small : v.z.m * v.z.b ≤ part_most
  differences-small = omega (arith, mul-le-mul small.m small.b)

  -- what is lent of a table, and what of it has changed
  module _ {X : Type 0} (each : ℕ) (each-small : each ≤ part_most) (xs : List X) (long : length xs ≡ v.stripes * each) where
    lent_is : (ys : List X) → part_in (part_of s each (length xs)) ys ≡ of_stripe s each ys
    lent_is = part-is s each v.stripes xs in-range small.stripes each-small long

    other-is : (xs' : List X) → Only (part_of s each (length xs)) xs xs' → (r : ℕ) → (r ≡ s → ⊥) → of_stripe r each xs' ≡ of_stripe r each xs
    other-is = others_same s each v.stripes xs in-range small.stripes each-small long

    same-is : (xs' : List X) → Only (part_of s each (length xs)) xs xs' → of_stripe s each xs' ≡ of_stripe s each xs → xs' ≡ xs
    same-is = table_same s each v.stripes xs in-range small.stripes each-small long

  -- the tables after a turn, by what has changed of each
  module _ (t t' : Lent) (fit : Fit v t)
      (only-n : Only (part_of s v.z.n (length t.nodes)) t.nodes t'.nodes)
      (only-c : Only (part_of s v.z.m (length t.clients)) t.clients t'.clients)
      (only-b : Only (part_of s (v.z.n * v.z.b) (length t.blocks)) t.blocks t'.blocks)
      (only-s : Only (part_of s (v.z.n * v.z.b) (length t.spare)) t.spare t'.spare)
      (only-d : Only (part_of s (v.z.m * v.z.b) (length t.differences)) t.differences t'.differences) where
    fit-after : Fit v t'
    fit-after = record {
      nodes = only-n.0 ∙ fit.nodes;
      clients = only-c.0 ∙ fit.clients;
      blocks = only-b.0 ∙ fit.blocks;
      spare = only-s.0 ∙ fit.spare;
      differences = only-d.0 ∙ fit.differences;
    }

    others-after : (r : ℕ) → (r ≡ s → ⊥) → stripe_of v t' r ≡ stripe_of v t r
    others-after r other =
        λ i. stripe_in
        (other-is v.z.n n-small t.nodes fit.nodes t'.nodes only-n r other i)
        (other-is v.z.m m-small t.clients fit.clients t'.clients only-c r other i)
        (other-is (v.z.n * v.z.b) blocks-small t.blocks fit.blocks t'.blocks only-b r other i)
        (other-is (v.z.n * v.z.b) blocks-small t.spare fit.spare t'.spare only-s r other i)
        (other-is (v.z.m * v.z.b) differences-small t.differences fit.differences t'.differences only-d r other i)

    same_after : of_stripe s v.z.n t'.nodes ≡ of_stripe s v.z.n t.nodes → of_stripe s v.z.m t'.clients ≡ of_stripe s v.z.m t.clients
        → of_stripe s (v.z.n * v.z.b) t'.blocks ≡ of_stripe s (v.z.n * v.z.b) t.blocks
        → of_stripe s (v.z.n * v.z.b) t'.spare ≡ of_stripe s (v.z.n * v.z.b) t.spare
        → of_stripe s (v.z.m * v.z.b) t'.differences ≡ of_stripe s (v.z.m * v.z.b) t.differences → t' ≡ t
    same_after en ec eb es ed =
        λ i. record {
          nodes = same-is v.z.n n-small t.nodes fit.nodes t'.nodes only-n en i;
          clients = same-is v.z.m m-small t.clients fit.clients t'.clients only-c ec i;
          blocks = same-is (v.z.n * v.z.b) blocks-small t.blocks fit.blocks t'.blocks only-b eb i;
          spare = same-is (v.z.n * v.z.b) blocks-small t.spare fit.spare t'.spare only-s es i;
          differences = same-is (v.z.m * v.z.b) differences-small t.differences fit.differences t'.differences only-d ed i;
        }

  -- the stripe's own tables have their lengths, so the machine's call is its step
  on-stripe : (t : Lent) → Fit v t → (call : Call) → on_tables v.z call (stripe_of v t s) ≡ step v.z call (stripe_of v t s)
  unfolding guard
  on-stripe t fit call =
      rw (
        eq-eqb (length (nodes_in (of_stripe s v.z.n t.nodes))) v.z.n many-nodes,
        eq-eqb (length (clients_in (of_stripe s v.z.m t.clients))) v.z.m many-clients,
      )
    where
      many-nodes : length (nodes_in (of_stripe s v.z.n t.nodes)) ≡ v.z.n
      many-nodes = length-map (of_stripe s v.z.n t.nodes) node_of ∙ stripe-length s v.z.n v.stripes t.nodes in-range fit.nodes

      many-clients : length (clients_in (of_stripe s v.z.m t.clients)) ≡ v.z.m
      many-clients = length-map (of_stripe s v.z.m t.clients) client_of ∙ stripe-length s v.z.m v.stripes t.clients in-range fit.clients

  -- ---- what is asked of the stripe

  -- "B bytes given for each, in stripe order"
  card-value : (value : List ℕ) → length value ≡ v.stripes * v.z.b → part_in (part_of s v.z.b (length value)) value ≡ block v.z.b (suc s) value
  unfolding part
  card-value value long = lent_is v.z.b (omega (arith, small.b)) value long value ∙ ap (λ (k : ℕ). take v.z.b (drop (k * v.z.b) value)) one
    where
      one : s ≡ suc s - 1
      one = omega arith

  whole-value : (value : List ℕ) → part_in (record { first = 0; end = length value }) value ≡ value
  whole-value value = ap (λ (k : ℕ). take k value) none ∙ take-length value
    where
      none : length value - 0 ≡ length value
      none = omega arith

  abbrev value_fits : Call → Type 0
  value_fits call = given_fits v.z v.stripes call ≡ true

  asked : (call : StepCall) (value : List ℕ) → value_fits (step_of call value)
      → step_of (step_for call v.z.n s) (part_in (value_part (on_stripe v (Step call) s) (length value)) value) ≡ call_in v.z s (step_of call value)
  asked (Swap c i) value fits = ap (λ (x : List ℕ). Calls.Swap c i x) (whole-value value)
  asked (Fail card) value fits = ap (λ (x : List ℕ). Calls.Fail (node_for v.z.n s card) x) (card-value value (eqb-true (length value) (v.stripes * v.z.b) fits))
  asked (Due j) value fits = refl
  asked Tick value fits = refl
  asked (At op c j) value fits = refl
  asked (By op c) value fits = refl

  -- ---- the turn

  module _ (t t' : Lent) (fit : Fit v t) (value : List ℕ) (a : Answer) where
    tables : table_blocks v.z ≡ v.z.n * v.z.b
    tables = blocks-table v.z small.n small.b

    tables-d : table_differences v.z ≡ v.z.m * v.z.b
    tables-d = differences-table v.z small.m small.b

    -- a table of bytes whose part is lent by its name
    abbrev Blocks : ℕ → List ℕ → List ℕ → Type 0
    Blocks each xs xs' = Only (part_of s each (length xs)) xs xs'

    module _ {Q : Type 0} (R : List NodeRecord → List ClientRecord → List ℕ → List ℕ → List ℕ → List ℕ → Q → Answer
        → List NodeRecord → List ClientRecord → List ℕ → List ℕ → List ℕ → Type 0) (ask : Q) (call : VolumeCall)
        (made : OnParts R ask t.nodes t.clients t.blocks t.spare t.differences value (on_stripe v call s) a
        t'.nodes t'.clients t'.blocks t'.spare t'.differences) where
      only-b : Blocks (v.z.n * v.z.b) t.blocks t'.blocks
      only-b = subst (λ (each : ℕ). Blocks each t.blocks t'.blocks) tables made.1.1.1.0

      only-s : Blocks (v.z.n * v.z.b) t.spare t'.spare
      only-s = subst (λ (each : ℕ). Blocks each t.spare t'.spare) tables made.1.1.1.1.0

      only-d : Blocks (v.z.m * v.z.b) t.differences t'.differences
      only-d = subst (λ (each : ℕ). Blocks each t.differences t'.differences) tables-d made.1.1.1.1.1

      blocks-lent : (xs : List ℕ) → length xs ≡ v.stripes * (v.z.n * v.z.b) → (ys : List ℕ)
          → part_in (part_of s (table_blocks v.z) (length xs)) ys ≡ of_stripe s (v.z.n * v.z.b) ys
      blocks-lent xs long ys = ap (λ (each : ℕ). part_in (part_of s each (length xs)) ys) tables ∙ lent_is (v.z.n * v.z.b) blocks-small xs long ys

      differences-lent : (xs : List ℕ) → length xs ≡ v.stripes * (v.z.m * v.z.b) → (ys : List ℕ)
          → part_in (part_of s (table_differences v.z) (length xs)) ys ≡ of_stripe s (v.z.m * v.z.b) ys
      differences-lent xs long ys = ap (λ (each : ℕ). part_in (part_of s each (length xs)) ys) tables-d ∙ lent_is (v.z.m * v.z.b) differences-small xs long ys

      -- on the stripe's own tables
      said_of : R (of_stripe s v.z.n t.nodes) (of_stripe s v.z.m t.clients) (of_stripe s (v.z.n * v.z.b) t.blocks)
          (of_stripe s (v.z.n * v.z.b) t.spare) (of_stripe s (v.z.m * v.z.b) t.differences)
          (part_in (value_part (on_stripe v call s) (length value)) value) ask a
          (of_stripe s v.z.n t'.nodes) (of_stripe s v.z.m t'.clients) (of_stripe s (v.z.n * v.z.b) t'.blocks)
          (of_stripe s (v.z.n * v.z.b) t'.spare) (of_stripe s (v.z.m * v.z.b) t'.differences)
      said_of = transport (λ i. R
          (lent_is v.z.n n-small t.nodes fit.nodes t.nodes i)
          (lent_is v.z.m m-small t.clients fit.clients t.clients i)
          (blocks-lent t.blocks fit.blocks t.blocks i)
          (blocks-lent t.spare fit.spare t.spare i)
          (differences-lent t.differences fit.differences t.differences i)
          (part_in (value_part (on_stripe v call s) (length value)) value) ask a
          (lent_is v.z.n n-small t.nodes fit.nodes t'.nodes i)
          (lent_is v.z.m m-small t.clients fit.clients t'.clients i)
          (blocks-lent t.blocks fit.blocks t'.blocks i)
          (blocks-lent t.spare fit.spare t'.spare i)
          (differences-lent t.differences fit.differences t'.differences i)) made.0

    step-turned : (call : StepCall) → value_fits (step_of call value)
        → StepsPart t.nodes t.clients t.blocks t.spare t.differences value (on_stripe v (Step call) s) a
        t'.nodes t'.clients t'.blocks t'.spare t'.differences call
        → Turned v (step_of call value) s t a t'
    step-turned call fits made =
        let m = said_of StepsLent (step_request_of (on_stripe v (Step call) s) call) (Step call) made in
        let b = only-b StepsLent (step_request_of (on_stripe v (Step call) s) call) (Step call) made in
        let p = only-s StepsLent (step_request_of (on_stripe v (Step call) s) call) (Step call) made in
        let d = only-d StepsLent (step_request_of (on_stripe v (Step call) s) call) (Step call) made in
        record {
          fit = fit-after t t' fit made.1.0 made.1.1.0 b p d;
          said = m.said ∙ on-stripe t fit _ ∙ ap (λ (x : Call). step v.z x (stripe_of v t s)) (asked call value fits);
          others = others-after t t' fit made.1.0 made.1.1.0 b p d;
          left = left-map a (λ same. same_after t t' fit made.1.0 made.1.1.0 b p d same.0 same.1.0 same.1.1.0 same.1.1.1.0 same.1.1.1.1) m.left;
        }

    -- what a pick says of the stripe's own tables
    abbrev Picks : ℕ → Type 0
    Picks c = PicksOnly (of_stripe s v.z.n t.nodes) (of_stripe s v.z.m t.clients) (of_stripe s (v.z.n * v.z.b) t.blocks)
        (of_stripe s (v.z.n * v.z.b) t.spare) (of_stripe s (v.z.m * v.z.b) t.differences)
        (part_in (value_part (on_stripe v (Pick c) s) (length value)) value) (record { z = v.z; c = c }) a
        (of_stripe s v.z.n t'.nodes) (of_stripe s v.z.m t'.clients) (of_stripe s (v.z.n * v.z.b) t'.blocks)
        (of_stripe s (v.z.n * v.z.b) t'.spare) (of_stripe s (v.z.m * v.z.b) t'.differences)

    -- a pick writes the spare alone, and refused so leaves it
    pick-turned : (c : ℕ)
        → PicksPart t.nodes t.clients t.blocks t.spare t.differences value (on_stripe v (Pick c) s) a
        t'.nodes t'.clients t'.blocks t'.spare t'.differences c
        → Turned v (Calls.Pick c) s t a t'
    pick-turned c made =
        let m = said_of PicksOnly (pick_request_of (on_stripe v (Pick c) s) c) (Pick c) made in
        let b = only-b PicksOnly (pick_request_of (on_stripe v (Pick c) s) c) (Pick c) made in
        let p = only-s PicksOnly (pick_request_of (on_stripe v (Pick c) s) c) (Pick c) made in
        let d = only-d PicksOnly (pick_request_of (on_stripe v (Pick c) s) c) (Pick c) made in
        let meets = m.1.1 (of_stripe s (v.z.m * v.z.b) t.differences) in
        record {
          fit = fit-after t t' fit made.1.0 made.1.1.0 b p d;
          said = picked m;
          others = others-after t t' fit made.1.0 made.1.1.0 b p d;
          left = left-with a (λ refused same. same_after t t' fit made.1.0 made.1.1.0 b p d same.0 same.1 m.0 (kept m refused) m.1.0) meets.left;
        }
      where
        picked : Picks c → answered (answer_of a []) (stripe_of v t' s) ≡ step v.z (Calls.Pick c) (stripe_of v t s)
        picked m =
            (λ i. answered (answer_of a []) (stripe_in (of_stripe s v.z.n t'.nodes) (of_stripe s v.z.m t'.clients) (m.0 i)
            (of_stripe s (v.z.n * v.z.b) t'.spare) (m.1.0 i)))
            ∙ (m.1.1 (of_stripe s (v.z.m * v.z.b) t.differences)).said ∙ on-stripe t fit (Calls.Pick c)

        kept : Picks c → Refusing a → of_stripe s (v.z.n * v.z.b) t'.spare ≡ of_stripe s (v.z.n * v.z.b) t.spare
        kept m refused =
            ap (λ o. o.after.spare) (picked m)
            ∙ ap (λ x. x.spare) (refusals-same v.z (Calls.Pick c) (stripe_of v t s) refused.why
            (sym (ap (λ o. o.answer) (picked m)) ∙ ap (λ x. answer_of x []) refused.is) refused.unchanged)

  -- whichever it is
  pub turned : (call : VolumeCall) (t t' : Lent) (value : List ℕ) (a : Answer) → Fit v t → value_fits (call_of call value)
      → Makes value t (on_stripe v call s) a t' → Turned v (call_of call value) s t a t'
  turned (Pick c) t t' value a fit fits made = pick-turned t t' fit value a c made
  turned (Step call) t t' value a fit fits made = step-turned t t' fit value a call fits made
