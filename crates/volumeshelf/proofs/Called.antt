-- What a call says, by what its tests answer and its calls on stripes say. Assumes nothing.
use mathlib.Core.Bool.{Bool, true, false, cond, ◌&&◌, ◌||◌, not}
use mathlib.Core.List.{List, [], ◌∷◌, map}
use mathlib.Core.Logic.{◌⊎◌, inl, inr}
use mathlib.Core.Path.{◌≡◌, refl, sym, ap, subst, ◌∙◌}
use Prim.Native.Nat.{ℕ, zero, suc, ◌-◌, ◌*◌, ◌/◌, ◌≤◌, ◌<◌}
use native.Mathlib.Decide.{ℕ_discrete, dec_lt}
use native.Mathlib.Omega.{arith}
use lib.Dec.{eqb, leb, ltb}
use lib.ListN.{length, get_or, length-map}
use lib.Seq.{ext_get_or}
use borrow.Author.Tests.{eqb-true, le-ltb, leb-false, leb-true, lt-ltb, not-true}
use Rattle.std.specs.Prelude.{Err, Ok, Result}
use Rattle.std.specs.List.{enumerate_from, list_all}
use Rattle.std.proofs.lemmas.List.Folds.{list_all_at}
use Rattle.std.proofs.lemmas.List.FromFn.{get_or-enumerate_from, length-enumerate_from}
use native.Mathlib.Nat.{zero-add}
use Rattle.basics.specs.Lists.{element_at, list_of, some_of}
use Rattle.basics.proofs.Lists.{element-past, get_or-list_of, length-list_of, none-at, some_at}
use Rattle.basics.proofs.Tests.{and_both, bool_cases, clash, is_false, is_true, not-no, or-one}
use Rattle.blocks.specs.Blocks.{block}
use Rattle.blocks.proofs.Parts.{part_length}
use Rattle.calls.specs.declared.Answer.{Answer}
use Rattle.calls.specs.declared.Answer.TheVariants.{Refused}
use Rattle.calls.specs.declared.StepCall.{StepCall}
use Rattle.calls.specs.declared.StepCall.TheVariants.{Swap, Fail, Due, Tick, At, By}
use Rattle.calls.specs.Answers.{Left, answer_of, is_unchanged}
use Rattle.calls.proofs.Left.{left-free, left-same, refusing}
use Rattle.layout.specs.Layout.{node_for}
use Rattle.limits.proofs.Limits.{code-sizes}
use Rattle.machine.specs.Calls.{Call, step}
use Rattle.machine.specs.Calls as Calls
use Rattle.machine.specs.Stripe as Machine
use Rattle.machine.specs.Stripe.{Outcome, Stripe, answered, guard, nodes_fit, number, refused}
use Rattle.records.specs.declared.ClientCall.{ClientCall}
use Rattle.records.specs.declared.ClientCall.TheVariants.{Drop, Sweep, Stop, Lock, Weaken, Tighten, Write, Settle, Unlock, Quit}
use Rattle.records.specs.declared.ClientRecord.{ClientRecord}
use Rattle.records.specs.declared.Refusal.{Refusal}
use Rattle.records.specs.declared.Refusal.TheVariants.{OutOfLimits, OutOfRange}
use Rattle.records.specs.Client.{client_within}
use Rattle.records.specs.View.{client_of}
use Rattle.step.specs.View.{blank_client}
use Rattle.stripe.specs.View.{blank_record}
use Rattle.records.specs.Sizes.{sizes_within}
use Rattle.volume.specs.Volume as volume
use Rattle.volume.specs.Volume.{call_in, given_fits, is_of_each, is_stop, no_stripe, on_each, on_one, put_stripe, refused_with, stripe_at, stripe_limit}
use Rattle.volume.proofs.Cases.{each-ind}
use Rattle.volume.proofs.Each.{each_in}
use Rattle.volume.proofs.Steps.{put-length, put_other, put_same}
use Rattle.routing.specs.declared.Request.{Request}
use Rattle.tables.specs.declared.Volume.{Volume}
use Rattle.routing.specs.declared.VolumeCall.{VolumeCall}
use Rattle.routing.specs.declared.VolumeCall.TheVariants.{Pick, Step}
use Rattle.volumeshelf.specs.Volumes.{CallsVolume, call_of, calling, volume_in}
use Rattle.routing.specs.Walks.{client_passes, is_failure_call, is_of_each_call, is_place_of, is_stop_call, may_stop, node_passes, stopping_of, tested, walk_fits}
use Rattle.volumeshelf.specs.Entry.{Makes, Turns}
use Rattle.volumeshelf.proofs.Fits.{Fits, fits-false, fits-past, fits-true}
use Rattle.volumeshelf.proofs.Ranges.{fits_in}
use Rattle.volumeshelf.proofs.Tested.{refusal_of}
use Rattle.volumeshelf.proofs.Tested as tested-by
use Rattle.volumeshelf.proofs.Stops.{clients-in, clients-out, clients-some, fail-passes, in-stripe, nodes-in, nodes-out, outside-client, stop-passes, stop-refused}
use Rattle.volumeshelf.proofs.Turn.{Lent, stripe-at, stripe-count, stripe-length, stripe_of}
use Rattle.volumeshelf.proofs.Walked.{Sofar, Unchanged, walked, walked_one}

-- ---- volumes

abbrev vol : Volume → Lent → volume.Volume
vol v t = volume_in v t.nodes t.clients t.blocks t.spare t.differences

volume-is : (v : Volume) (t : Lent) (u : volume.Volume) → length u.stripes ≡ v.stripes → ((r : ℕ) → r < v.stripes → stripe_at u r ≡ stripe_of v t r) → vol v t ≡ u
unfolding element_at
volume-is v t u long at =
    ap (λ (l : List Stripe). record { stripes = l })
    (ext_get_or no_stripe (vol v t).stripes u.stripes (length-list_of v.stripes (stripe_of v t) ∙ sym long)
    (λ r l. let in-range : r < v.stripes = omega (arith, l, length-list_of v.stripes (stripe_of v t)) in
    stripe-at v t r in-range ∙ sym (at r in-range)))

-- a client's record that does not pass is the client's, and outside
fails-where : (p s w : Bool) → s ≡ true → not (not p || (s && w)) ≡ (p && not w)
fails-where true true w e = refl
fails-where false true w e = refl
fails-where p false w e = clash e refl

-- each element passes, or one does not
all-at : {X : Type 0} (p : X → Bool) (xs : List X) (d : X) → list_all p xs ≡ true → (i : ℕ) → i < length xs → p (get_or xs i d) ≡ true
all-at p xs d all i l = is_true (p (get_or xs i d)) (λ none. clash all (list_all_at p xs i d l none))

one-fails : {X : Type 0} (p : X → Bool) (xs : List X) (d : X) → list_all p xs ≡ false → (i : ℕ) × ((i < length xs) × (p (get_or xs i d) ≡ false))
one-fails p [] d e = clash refl e
one-fails p (x ∷ xs) d e = by (p x) refl e (one-fails p xs d)
  where
    by : (b : Bool) → p x ≡ b → (b && list_all p xs) ≡ false
        → (list_all p xs ≡ false → (i : ℕ) × ((i < length xs) × (p (get_or xs i d) ≡ false)))
        → (i : ℕ) × ((i < length (x ∷ xs)) × (p (get_or (x ∷ xs) i d) ≡ false))
    by true h f rest = let r = rest f in (suc r.0, (omega (arith, r.1.0), r.1.1))
    by false h f rest = (0, (omega arith, h))

and-false : (b : Bool) → (b && false) ≡ false
and-false true = refl
and-false false = refl

-- the very tables are left where the refusal is one that leaves all unchanged
left_by : (a : Answer) {P : Type 0} → (Unchanged (answer_of a []) → P) → Left a P
left_by a {P} f = by (bool_cases (is_unchanged a))
  where
    by : (is_unchanged a ≡ true) ⊎ (is_unchanged a ≡ false) → Left a P
    by (inl e) = let r = refusing a e in left-same a (f (record { why = r.why; is = ap (λ x. answer_of x []) r.is; unchanged = r.unchanged }))
    by (inr e) = left-free a P e

-- ---- what is said of the call

abbrev Said : Request → List ℕ → Lent → Answer → Lent → Type 0
Said q value t₀ a t =
    CallsVolume t₀.nodes t₀.clients t₀.blocks t₀.spare t₀.differences value q a t.nodes t.clients t.blocks t.spare t.differences

abbrev asks : Request → List ℕ → Lent → Outcome volume.Volume
asks q value t = calling q value t.nodes t.clients t.blocks t.spare t.differences

same_tables : {t t₀ : Lent} → t ≡ t₀
    → (t.nodes ≡ t₀.nodes) × ((t.clients ≡ t₀.clients) × ((t.blocks ≡ t₀.blocks) × ((t.spare ≡ t₀.spare) × (t.differences ≡ t₀.differences))))
same_tables k = (ap (λ x. x.nodes) k, (ap (λ x. x.clients) k, (ap (λ x. x.blocks) k, (ap (λ x. x.spare) k, ap (λ x. x.differences) k))))

-- refused by the volume itself
refused_all : (q : Request) (value : List ℕ) (t₀ t : Lent) (why : Refusal) → asks q value t₀ ≡ refused why (vol q.volume t₀) → t ≡ t₀ → Said q value t₀ (Refused why) t
refused_all q value t₀ t why e same =
    record {
      said = (λ i. answered (Machine.Refused why) (vol q.volume (same i))) ∙ sym e;
      left = left-same (Refused why) (same_tables same);
    }

module _ (q : Request) (value : List ℕ) (t₀ : Lent) where
  abbrev v : Volume
  v = q.volume

  -- ---- on one stripe

  module _ (F : Fits q value t₀) (inside : q.stripe < v.stripes) where
    one-stripe : (t : Lent) (last : Answer)
        (e-in : suc q.stripe ≤ v.stripes) → Sofar v F.small_is q.call value F.given_fits t₀ F.fit q.stripe (suc q.stripe) e-in (suc q.stripe) t last
        → asks q value t₀ ≡ on_one v.z q.stripe (call_of q.call value) (vol v t₀) → Said q value t₀ last t
    one-stripe t last e-in S e =
        record {
          said = (λ i. answered (outcome i).answer (whole i)) ∙ sym e;
          left = left_by last (λ u. same_tables (S.same (λ r a b. subst (λ (k : ℕ). Unchanged (step_of' k).answer) (omega (arith, a, b)) (subst Unchanged (ap (λ o. o.answer) here) u))));
        }
      where
        s : ℕ
        s = q.stripe

        step_of' : ℕ → Outcome Stripe
        step_of' r = step v.z (call_in v.z r (call_of q.call value)) (stripe_of v t₀ r)

        here : answered (answer_of last []) (stripe_of v t s) ≡ step_of' s
        here = S.latest s (omega arith) refl

        outcome : answered (answer_of last []) (stripe_of v t s) ≡ step v.z (call_in v.z s (call_of q.call value)) (stripe_at (vol v t₀) s)
        outcome = here ∙ ap (step v.z (call_in v.z s (call_of q.call value))) (sym (stripe-at v t₀ s inside))

        put : volume.Volume
        put = put_stripe s (step v.z (call_in v.z s (call_of q.call value)) (stripe_at (vol v t₀) s)).after (vol v t₀)

        at : (r : ℕ) → r < v.stripes → Dec (r ≡ s) → stripe_at put r ≡ stripe_of v t r
        at r l (yes k) =
            ap (stripe_at put) k ∙ put_same (vol v t₀) s _ (omega (arith, inside, length-list_of v.stripes (stripe_of v t₀))) ∙ sym (ap (λ o. o.after) outcome)
            ∙ ap (stripe_of v t) (sym k)
        at r l (no k) = put_other (vol v t₀) s _ r k ∙ stripe-at v t₀ r l ∙ sym (apart (dec_lt r s))
          where
            apart : Dec (r < s) → stripe_of v t r ≡ stripe_of v t₀ r
            apart (yes h) = S.before r h
            apart (no h) = S.after r (omega (arith, h, k))

        whole : vol v t ≡ put
        whole = volume-is v t put (put-length (vol v t₀) s _ ∙ length-list_of v.stripes (stripe_of v t₀)) (λ r l. at r l (ℕ_discrete r s))

  -- ---- on each stripe

  abbrev call : Call
  call = call_of q.call value

  abbrev step_at : ℕ → Outcome Stripe
  step_at r = step v.z (call_in v.z r call) (stripe_of v t₀ r)

  step_is : (r : ℕ) → r < v.stripes → volume.step_in v.z call (vol v t₀) r ≡ step_at r
  step_is r l = ap (step v.z (call_in v.z r call)) (stripe-at v t₀ r l)

  abbrev nothing : Outcome Stripe
  nothing = answered Machine.Accepted no_stripe

  abbrev outcomes : List (Outcome Stripe)
  outcomes = list_of (length (vol v t₀).stripes) (volume.step_in v.z call (vol v t₀))

  count : length (vol v t₀).stripes ≡ v.stripes
  count = stripe-count v t₀

  -- the outcome of stripe r among them
  outcome-at : (r : ℕ) → r < v.stripes → element_at nothing outcomes (suc r) ≡ step_at r
  unfolding element_at
  outcome-at r l = get_or-list_of (length (vol v t₀).stripes) (volume.step_in v.z call (vol v t₀)) r nothing (omega (arith, l, count)) ∙ step_is r l

  none-refuses : (why : ℕ) → eqb 0 why ≡ false → ((r : ℕ) → r < v.stripes → refused_with why (step_at r) ≡ false) → some_of (refused_with why) outcomes ≡ false
  unfolding element_at
  none-refuses why other h = is_false (some_of (refused_with why) outcomes) (λ e. let s = some_at nothing (refused_with why) outcomes e in clash s.1 (not_at s.0))
    where
      not_at : (j : ℕ) → refused_with why (element_at nothing outcomes j) ≡ false
      not_at zero = other
      not_at (suc r) = by (dec_lt r v.stripes)
        where
          by : Dec (r < v.stripes) → refused_with why (element_at nothing outcomes (suc r)) ≡ false
          by (yes l) = ap (refused_with why) (outcome-at r l) ∙ h r l
          by (no l) = ap (refused_with why) (element-past nothing outcomes (suc r) (omega (arith, l, length-list_of (length (vol v t₀).stripes) (volume.step_in v.z call (vol v t₀)), count))) ∙ other

  one-refuses : (why r : ℕ) → eqb 0 why ≡ false → r < v.stripes → refused_with why (step_at r) ≡ true → some_of (refused_with why) outcomes ≡ true
  one-refuses why r other l e =
      is_true (some_of (refused_with why) outcomes) (λ none. clash e (sym (ap (refused_with why) (outcome-at r l)) ∙ none-at nothing (refused_with why) other outcomes none (suc r)))

  -- refused in one of them with 1
  each-refused : (r : ℕ) → r < v.stripes → refused_with 1 (step_at r) ≡ true → on_each v.z call (vol v t₀) ≡ refused OutOfLimits (vol v t₀)
  unfolding guard
  each-refused r l e = rw (one-refuses 1 r refl l e)

  each-stripe : (F : Fits q value t₀) → is_of_each call ≡ true → ((r : ℕ) → r < v.stripes → refused_with 1 (step_at r) ≡ false)
      → (t : Lent) (last : Answer) (e-in : v.stripes ≤ v.stripes)
      → Sofar v F.small_is q.call value F.given_fits t₀ F.fit 0 v.stripes e-in v.stripes t last
      → asks q value t₀ ≡ on_each v.z call (vol v t₀) → Said q value t₀ last t
  unfolding guard
  each-stripe F each noone t last e-in S e =
      record {
        said = (λ i. answered (answer i) (whole i)) ∙ sym e;
        left = left_by last (λ u. same_tables (S.same (λ r a b. subst Unchanged (answer ∙ answer_at r b) u)));
      }
    where
      O : Outcome volume.Volume
      O = on_each v.z call (vol v t₀)

      limits : (a b : Bool) (x : volume.Volume) → a ≡ false
          → guard a OutOfLimits (vol v t₀) (guard b OutOfRange (vol v t₀) (answered Machine.Accepted x)) ≡ refused OutOfLimits (vol v t₀) → ⊥
      limits true b x f k = clash refl f
      limits false true x f k = let n : ◌≡◌ {A = ℕ} 2 1 = ap (λ o. number o.answer) k in omega (arith, n)
      limits false false x f k = let n : ◌≡◌ {A = ℕ} 0 1 = ap (λ o. number o.answer) k in omega (arith, n)

      at : (r : ℕ) → r < v.stripes → answered O.answer (stripe_at O.after r) ≡ step_at r
      at r l = by (each_in v.z call (vol v t₀) r (omega (arith, l, count)) each)
        where
          by : (O ≡ refused OutOfLimits (vol v t₀)) ⊎ (answered O.answer (stripe_at O.after r) ≡ volume.step_in v.z call (vol v t₀) r)
              → answered O.answer (stripe_at O.after r) ≡ step_at r
          by (inl k) = absurd (limits (some_of (refused_with 1) outcomes) (some_of (refused_with 2) outcomes) (record { stripes = map (λ o. o.after) outcomes }) (none-refuses 1 refl noone) k)
          by (inr k) = k ∙ step_is r l

      answer_at : (r : ℕ) → r < v.stripes → O.answer ≡ (step_at r).answer
      answer_at r l = ap (λ o. o.answer) (at r l)

      final : ℕ
      final = v.stripes - 1

      final-in : final < v.stripes
      final-in = omega (arith, F.small_is.some)

      answer : answer_of last [] ≡ O.answer
      answer = ap (λ o. o.answer) (S.latest final (omega arith) (omega (arith, F.small_is.some))) ∙ sym (answer_at final final-in)

      long : length O.after.stripes ≡ v.stripes
      long =
          each-ind v.z (vol v t₀) (λ o. length o.after.stripes ≡ v.stripes) call count (λ a b. count)
          (λ a b. length-map outcomes (λ o. o.after) ∙ length-list_of (length (vol v t₀).stripes) (volume.step_in v.z call (vol v t₀)) ∙ count)

      whole : vol v t ≡ O.after
      whole = volume-is v t O.after long (λ r l. ap (λ o. o.after) (at r l) ∙ sym (ap (λ o. o.after) (S.done r (omega arith) l).1))

  -- ---- past the tests

  abbrev pub fits : Bool
  fits = walk_fits q (length t₀.nodes) (length t₀.clients) (length t₀.blocks) (length t₀.spare) (length t₀.differences) (length value)

  -- a call of each stripe in the code is one in the machine
  each-is : (c : VolumeCall) → is_of_each_call c ≡ is_of_each (call_of c value)
  each-is (Pick c) = refl
  each-is (Step (Swap c i)) = refl
  each-is (Step (Fail j)) = refl
  each-is (Step (Due j)) = refl
  each-is (Step Tick) = refl
  each-is (Step (At op c j)) = refl
  each-is (Step (By op c)) = refl

  module _ (F : Fits q value t₀) where
    -- a failure is refused with 1 in no stripe
    fail-noone : (card : ℕ) → q.call ≡ Step (Fail card) → (r : ℕ) → r < v.stripes → refused_with 1 (step_at r) ≡ false
    fail-noone card is r l =
        ap (λ c. refused_with 1 (step v.z (call_in v.z r (call_of c value)) (stripe_of v t₀ r))) is
        ∙ fail-passes v.z (node_for v.z.n r card) (block v.z.b (suc r) value) (stripe_of v t₀ r) F.small_is.within
        (stripe-length r (v.z.n * v.z.b) v.stripes t₀.blocks l F.fit.blocks) bytes
      where
        long : length value ≡ v.stripes * v.z.b
        long = eqb-true (length value) (v.stripes * v.z.b) (sym (ap (λ c. given_fits v.z v.stripes (call_of c value)) is) ∙ F.given_fits)

        bytes : length (block v.z.b (suc r) value) ≡ v.z.b
        bytes = part_length ((suc r - 1) * v.z.b) v.z.b value (rw long (omega (arith, here, fits_in r v.z.b v.stripes l)))
          where
            here : (suc r - 1) * v.z.b ≡ r * v.z.b
            here = ap (λ (k : ℕ). k * v.z.b) (omega arith)

    -- ---- a stop

    module _ (c : ℕ) (is : q.call ≡ Step (By Stop c)) (past : asks q value t₀ ≡ on_each v.z call (vol v t₀)) where
      some-nodes : 1 ≤ v.z.n
      some-nodes = let s = code-sizes v.z F.small_is.within in omega (arith, s.redundant_least)

      some-clients : 1 ≤ v.z.m
      some-clients = clients-some v.z F.small_is.within

      stop-at : (r : ℕ) → step_at r ≡ step v.z (Calls.By Stop c) (stripe_of v t₀ r)
      stop-at r = ap (λ x. step v.z (call_in v.z r (call_of x value)) (stripe_of v t₀ r)) is

      stopped_by : stopping_of q.call ≡ c
      stopped_by = ap stopping_of is

      -- a record that passes is not outside, and one that is outside does not pass
      abbrev passes : ℕ × ClientRecord → Bool
      passes = client_passes v.z c

      client-outside : (i : ℕ) → i < length t₀.clients
          → not (passes (get_or (enumerate_from 0 t₀.clients) i (0, blank_client))) ≡ outside-client v.z c v.stripes t₀.clients F.fit.clients some-clients some-nodes i
      client-outside i l =
          ap (λ (p : ℕ × ClientRecord). not (passes p)) (get_or-enumerate_from 0 t₀.clients i (0, blank_client) l)
          ∙ ap (λ (k : ℕ). not (passes (k, get_or t₀.clients i blank_client))) (zero-add i)
          ∙ fails-where (is_place_of v.z.m c i) (sizes_within v.z) (client_within v.z (client_of (get_or t₀.clients i blank_client))) F.small_is.within

      abbrev clients_pass : Bool
      clients_pass = list_all passes (enumerate_from 0 t₀.clients)

      may-is : may_stop q t₀.nodes t₀.clients ≡ (list_all (node_passes v.z) t₀.nodes && clients_pass)
      may-is = ap (λ (k : ℕ). list_all (node_passes v.z) t₀.nodes && list_all (client_passes v.z k) (enumerate_from 0 t₀.clients)) stopped_by

      stop-noone : may_stop q t₀.nodes t₀.clients ≡ true → (r : ℕ) → r < v.stripes → refused_with 1 (step_at r) ≡ false
      stop-noone may r l =
          let both = and_both (list_all (node_passes v.z) t₀.nodes) clients_pass (sym may-is ∙ may) in
          ap (refused_with 1) (stop-at r)
          ∙ stop-passes v.z c (stripe_of v t₀ r) F.small_is.within
          (nodes-in v.z v.stripes t₀.nodes F.fit.nodes some-nodes
          (λ i b. ap not (all-at (node_passes v.z) t₀.nodes blank_record both.0 i (omega (arith, b, F.fit.nodes)))) r l)
          (clients-in v.z c v.stripes t₀.clients F.fit.clients some-clients some-nodes
          (λ i b. let k : i < length t₀.clients = omega (arith, b, F.fit.clients) in
          sym (client-outside i k)
          ∙ ap not (all-at passes (enumerate_from 0 t₀.clients) (0, blank_client) both.1 i (omega (arith, k, length-enumerate_from 0 t₀.clients)))) r l)

      stop-fails : may_stop q t₀.nodes t₀.clients ≡ false → asks q value t₀ ≡ refused OutOfLimits (vol v t₀)
      stop-fails may = by (bool_cases (list_all (node_passes v.z) t₀.nodes))
        where
          by : (list_all (node_passes v.z) t₀.nodes ≡ true) ⊎ (list_all (node_passes v.z) t₀.nodes ≡ false) → asks q value t₀ ≡ refused OutOfLimits (vol v t₀)
          by (inl some) =
              let bad = one-fails passes (enumerate_from 0 t₀.clients) (0, blank_client) (sym (rw some) ∙ sym may-is ∙ may) in
              let k : bad.0 < length t₀.clients = omega (arith, bad.1.0, length-enumerate_from 0 t₀.clients) in
              let b : bad.0 < v.stripes * v.z.m = omega (arith, k, F.fit.clients) in
              let r = bad.0 / v.z.m in
              let out = clients-out v.z c v.stripes t₀.clients F.fit.clients some-clients some-nodes bad.0 b (sym (client-outside bad.0 k) ∙ ap not bad.1.1) in
              past
              ∙ each-refused r (in-stripe v.z.m v.stripes bad.0 some-clients b)
              (ap (refused_with 1) (stop-at r) ∙ stop-refused v.z c (stripe_of v t₀ r) (rw out (and-false (nodes_fit v.z (stripe_of v t₀ r).nodes))))
          by (inr none) =
              let bad = one-fails (node_passes v.z) t₀.nodes blank_record none in
              let b : bad.0 < v.stripes * v.z.n = omega (arith, bad.1.0, F.fit.nodes) in
              let r = bad.0 / v.z.n in
              let out = nodes-out v.z v.stripes t₀.nodes F.fit.nodes some-nodes bad.0 b (ap not bad.1.1) in
              past
              ∙ each-refused r (in-stripe v.z.n v.stripes bad.0 some-nodes b)
              (ap (refused_with 1) (stop-at r) ∙ stop-refused v.z c (stripe_of v t₀ r) (rw out))

  -- what the machine is asked past the tests
  abbrev own-stripe : volume.Volume → Outcome volume.Volume
  own-stripe u = guard (not (ltb q.stripe v.stripes)) OutOfRange u (on_one v.z q.stripe call u)

  asks-each : Fits q value t₀ → is_of_each_call q.call ≡ true → asks q value t₀ ≡ on_each v.z call (vol v t₀)
  asks-each F f = fits-past q value t₀ F ∙ ap (λ (b : Bool). cond b (on_each v.z call (vol v t₀)) (own-stripe (vol v t₀))) (sym (each-is q.call) ∙ f)

  asks-one : Fits q value t₀ → is_of_each_call q.call ≡ false
      → asks q value t₀ ≡ guard (not (ltb q.stripe v.stripes)) OutOfRange (vol v t₀) (on_one v.z q.stripe call (vol v t₀))
  asks-one F f = fits-past q value t₀ F ∙ ap (λ (b : Bool). cond b (on_each v.z call (vol v t₀)) (own-stripe (vol v t₀))) (sym (each-is q.call) ∙ f)

  asks-outside : Fits q value t₀ → is_of_each_call q.call ≡ false → v.stripes ≤ q.stripe → asks q value t₀ ≡ refused OutOfRange (vol v t₀)
  unfolding guard
  asks-outside F f l = asks-one F f ∙ ap (λ (b : Bool). guard (not b) OutOfRange (vol v t₀) (on_one v.z q.stripe call (vol v t₀))) (le-ltb q.stripe v.stripes l)

  asks-inside : Fits q value t₀ → is_of_each_call q.call ≡ false → q.stripe < v.stripes → asks q value t₀ ≡ on_one v.z q.stripe call (vol v t₀)
  unfolding guard
  asks-inside F f l = asks-one F f ∙ ap (λ (b : Bool). guard (not b) OutOfRange (vol v t₀) (on_one v.z q.stripe call (vol v t₀))) (lt-ltb q.stripe v.stripes l)

-- ---- the calls of each stripe

stop-by : (op : ClientCall) (c : ℕ) → is_stop op ≡ true → By op c ≡ By Stop c
stop-by Drop c e = clash e refl
stop-by Sweep c e = clash e refl
stop-by Stop c e = refl
stop-by Lock c e = clash e refl
stop-by Weaken c e = clash e refl
stop-by Tighten c e = clash e refl
stop-by Write c e = clash e refl
stop-by Settle c e = clash e refl
stop-by Unlock c e = clash e refl
stop-by Quit c e = clash e refl

stop-call : (x : VolumeCall) → is_stop_call x ≡ true → (c : ℕ) × (x ≡ Step (By Stop c))
stop-call (Pick c) e = clash e refl
stop-call (Step (Swap c i)) e = clash e refl
stop-call (Step (Fail j)) e = clash e refl
stop-call (Step (Due j)) e = clash e refl
stop-call (Step Tick) e = clash e refl
stop-call (Step (At op c j)) e = clash e refl
stop-call (Step (By op c)) e = (c, ap (λ (y : StepCall). Step y) (stop-by op c e))

fail-call : (x : VolumeCall) → is_failure_call x ≡ true → (card : ℕ) × (x ≡ Step (Fail card))
fail-call (Pick c) e = clash e refl
fail-call (Step (Swap c i)) e = clash e refl
fail-call (Step (Fail j)) e = (j, refl)
fail-call (Step (Due j)) e = clash e refl
fail-call (Step Tick) e = clash e refl
fail-call (Step (At op c j)) e = clash e refl
fail-call (Step (By op c)) e = clash e refl

-- ---- all of it, by what the tests answer

abbrev by-tests : Bool → Bool → Bool → Result (Unit {0}) Refusal
by-tests f s e = cond f (cond s (Err OutOfLimits) (cond e (Err OutOfRange) (Ok tt))) (Err OutOfLimits)

passed : (f s e : Bool) → tested-by.passes (by-tests f s e) ≡ true → (f ≡ true) × ((s ≡ false) × (e ≡ false))
passed true false false h = (refl, (refl, refl))
passed true false true h = clash h refl
passed true true e h = clash h refl
passed false s e h = clash h refl

module _ (q : Request) (value : List ℕ) (t₀ : Lent) where
  abbrev stops : Bool
  stops = is_stop_call q.call && not (may_stop q t₀.nodes t₀.clients)

  abbrev is_outside : Bool
  is_outside = not (is_of_each_call q.call) && leb q.volume.stripes q.stripe

  abbrev test : Result (Unit {0}) Refusal
  test = tested q t₀.nodes t₀.clients (length t₀.blocks) (length t₀.spare) (length t₀.differences) (length value)

  stop-of-each : is_stop_call q.call ≡ true → is_of_each_call q.call ≡ true
  stop-of-each e = rw e (or-true (is_failure_call q.call))
    where
      or-true : (b : Bool) → (b || true) ≡ true
      or-true true = refl
      or-true false = refl

  refused-as : (why other : Refusal) → test ≡ Err why → test ≡ Err other → asks q value t₀ ≡ refused other (vol q.volume t₀) → Said q value t₀ (Refused why) t₀
  refused-as why other h is e =
      subst (λ (w : Refusal). Said q value t₀ (Refused w) t₀) (ap refusal_of (sym is ∙ h)) (refused_all q value t₀ t₀ other e refl)

  pub refused-said : (why : Refusal) → test ≡ Err why → Said q value t₀ (Refused why) t₀
  refused-said why h = by (bool_cases (fits q value t₀)) (bool_cases stops) (bool_cases is_outside)
    where
      by : (fits q value t₀ ≡ true) ⊎ (fits q value t₀ ≡ false) → (stops ≡ true) ⊎ (stops ≡ false) → (is_outside ≡ true) ⊎ (is_outside ≡ false)
          → Said q value t₀ (Refused why) t₀
      by (inr f) s e = refused-as why OutOfLimits h (ap (λ (b : Bool). by-tests b stops is_outside) f) (fits-false q value t₀ f)
      by (inl f) (inl s) e =
          let both = and_both (is_stop_call q.call) (not (may_stop q t₀.nodes t₀.clients)) s in
          let F = fits-true q value t₀ f in
          let c = stop-call q.call both.0 in
          refused-as why OutOfLimits h (λ i. by-tests (f i) (s i) is_outside)
          (stop-fails q value t₀ F c.0 c.1 (asks-each q value t₀ F (stop-of-each both.0)) (not-true (may_stop q t₀.nodes t₀.clients) both.1))
      by (inl f) (inr s) (inl e) =
          let both = and_both (not (is_of_each_call q.call)) (leb q.volume.stripes q.stripe) e in
          refused-as why OutOfRange h (λ i. by-tests (f i) (s i) (e i))
          (asks-outside q value t₀ (fits-true q value t₀ f) (not-true (is_of_each_call q.call) both.0) (leb-true q.volume.stripes q.stripe both.1))
      by (inl f) (inr s) (inr e) = clash refl (ap tested-by.passes (sym (λ i. by-tests (f i) (s i) (e i)) ∙ h))

  module _ (ok : tested-by.passes test ≡ true) where
    past-tests : (fits q value t₀ ≡ true) × ((stops ≡ false) × (is_outside ≡ false))
    past-tests = passed (fits q value t₀) stops is_outside ok

    F : Fits q value t₀
    F = fits-true q value t₀ past-tests.0

    pub one-said : is_of_each_call q.call ≡ false → (a : Answer) (t : Lent) → Makes value t₀ q a t → Said q value t₀ a t
    one-said f a t made =
        let l : q.stripe < q.volume.stripes = leb-false q.volume.stripes q.stripe (sym (rw f) ∙ past-tests.1.1) in
        one-stripe q value t₀ F l t a l (walked_one q F.small_is value F.given_fits t₀ F.fit l t a made) (asks-inside q value t₀ F f l)

    pub each-said : is_of_each_call q.call ≡ true → (a : Answer) (t : Lent) → Turns q value t₀ q.volume.stripes t a → Said q value t₀ a t
    each-said f a t turns =
        each-stripe q value t₀ F (sym (each-is q value t₀ q.call) ∙ f) noone t a every
        (walked q F.small_is value F.given_fits t₀ F.fit every turns every) (asks-each q value t₀ F f)
      where
        every : q.volume.stripes ≤ q.volume.stripes
        every = omega arith

        by : (is_stop_call q.call ≡ true) ⊎ (is_stop_call q.call ≡ false) → (is_failure_call q.call ≡ true) ⊎ (is_stop_call q.call ≡ true)
            → (r : ℕ) → r < q.volume.stripes → refused_with 1 (step_at q value t₀ r) ≡ false
        by (inl stop) k =
            let c = stop-call q.call stop in
            stop-noone q value t₀ F c.0 c.1 (asks-each q value t₀ F f)
            (not-no (may_stop q t₀.nodes t₀.clients) (sym (ap (λ (b : Bool). b && not (may_stop q t₀.nodes t₀.clients)) stop) ∙ past-tests.1.0))
        by (inr still) (inl fail) = let c = fail-call q.call fail in fail-noone q value t₀ F c.0 c.1
        by (inr still) (inr stop) = clash stop still

        noone : (r : ℕ) → r < q.volume.stripes → refused_with 1 (step_at q value t₀ r) ≡ false
        noone = by (bool_cases (is_stop_call q.call)) (or-one (is_failure_call q.call) (is_stop_call q.call) f)
