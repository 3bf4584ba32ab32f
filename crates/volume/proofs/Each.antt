-- A stop and a card's failure have in each stripe two tests: one of what is there, refused with 1, then one that is the same for every stripe, refused with
-- 2. So where no stripe refuses the call with 1, all of them have one answer. Assumes nothing.
use mathlib.Core.Path.{◌≡◌, refl, sym, ap, subst, ◌∙◌}
use mathlib.Core.Logic.{◌⊎◌, inl, inr}
use mathlib.Core.Bool.{Bool, true, false, cond, not}
use mathlib.Core.List.{List, [], ◌∷◌, ◌++◌}
use Prim.Native.Nat.{ℕ, zero, suc, ◌≤◌, ◌<◌}
use native.Mathlib.Omega.{arith}
use lib.Dec.{eqb, leb}
use lib.ListN.{length, get_or-map}
use borrow.Author.Tests.{leb-true, le-leb}
use Rattle.basics.specs.Lists.{element_at, list_of, some_of}
use Rattle.basics.proofs.Lists.{get_or-list_of, none-at}
use Rattle.basics.proofs.Tests.{and_both, clash, is_true, or-none}
use Rattle.entries.specs.Entries.{is_up_to}
use Rattle.layout.specs.Layout.{is_one_of, node_for, node_on}
use Rattle.layout.proofs.Cards.{one-card}
use Rattle.machine.specs.Calls.{Call, Read, Pick, Swap, Fail, Due, Tick, At, By, step}
use Rattle.machine.specs.Stripe.{Stripe, Accepted, Outcome, answered, refused, guard, number, at_node, put_node, whole, put_whole}
use Rattle.machine.specs.Failure as Failure
use Rattle.machine.proofs.View.{put_back, put-whole-back}
use Rattle.records.specs.declared.ClientCall.{ClientCall}
use Rattle.records.specs.declared.ClientCall.TheVariants.{Drop, Sweep, Stop, Lock, Weaken, Tighten, Write, Settle, Unlock, Quit}
use Rattle.records.specs.declared.Refusal.TheVariants.{OutOfLimits, OutOfRange}
use Rattle.records.specs.declared.Sizes.{Sizes}
use Rattle.records.specs.Sizes.{is_node, is_client, node_limit}
use Rattle.volume.specs.Volume.{Volume, is_of_each, is_stop, no_stripe, on_each, refused_with, step_in, stripe_at}
use Rattle.volume.proofs.Cases.{outcomes, all_after, some_refuse, each-ind}

-- ---- two tests

abbrev two_tests : {S : Type 0} → Bool → Bool → S → S → Outcome S
two_tests one two s after = guard one OutOfLimits s (guard two OutOfRange s (answered Accepted after))

-- of what is lent, they are tests of the stripe
lifted : {L : Type 0} (put : L → Stripe) (l : L) (s : Stripe) → put l ≡ s → (one two : Bool) (after : L)
    → answered (two_tests one two l after).answer (put (two_tests one two l after).after) ≡ two_tests one two s (put after)
unfolding guard
lifted put l s back true two after = ap (answered _) back
lifted put l s back false true after = ap (answered _) back
lifted put l s back false false after = refl

-- an outcome that is not refused with 1 has passed the first; one with the second passed is not refused with 2, and the other way round
module _ {S : Type 0} (s after : S) where
  first-passed : (one two : Bool) → eqb (number (two_tests one two s after).answer) 1 ≡ false → one ≡ false
  unfolding guard
  first-passed true two e = clash refl e
  first-passed false two e = refl

  not-two : (one two : Bool) → two ≡ false → eqb (number (two_tests one two s after).answer) 2 ≡ false
  unfolding guard
  not-two true two f = refl
  not-two false true f = f
  not-two false false f = refl

  second-passed : (two : Bool) → eqb (number (two_tests false two s after).answer) 2 ≡ false → two ≡ false
  unfolding guard
  second-passed true e = clash refl e
  second-passed false e = refl

-- the outcome is that of these tests of s, the second one given
record Tested (two : Bool) (s : Stripe) (o : Outcome Stripe) : Type 0 where
  one : Bool
  after : Stripe
  is : o ≡ two_tests one two s after

-- a call whose second test is the same for every stripe
record Alike (z : Sizes) (call : Call) (v : Volume) : Type 0 where
  two : Bool
  tested : (s : ℕ) → Tested two (stripe_at v s) (step_in z call v s)

-- ---- a failure and a stop are so

-- a card's node is one of the nodes where the card is one of the cards
node-range : (n s card : ℕ) → is_up_to n (node_for n s card) ≡ is_one_of n card
node-range n s card = go (is_one_of n card) refl
  where
    go : (t : Bool) → is_one_of n card ≡ t → is_up_to n (cond t (node_on n s card) 0) ≡ t
    go false e = refl
    go true e =
        let within = and_both (leb 1 card) _ (and_both (leb n node_limit) _ e).1 in
        let low : 1 ≤ card = leb-true 1 card within.0 in
        let high : card ≤ n = leb-true card n within.1 in
        let node = one-card.node n s card (omega arith) in
        rw (le-leb 1 (node_on n s card) node.0, le-leb (node_on n s card) n node.1)

fail-tested : (z : Sizes) (j : ℕ) (value : List ℕ) (x : Stripe) → Tested (not (is_node z j)) x (step z (Fail j value) x)
unfolding step Failure.fail
fail-tested z j value x = record { one = _; after = _; is = lifted (λ l. put_node j 0 l x) (at_node j 0 x) x (put_back j 0 x) _ _ _ }

stop-tested : (z : Sizes) (c : ℕ) (x : Stripe) → Tested (not (is_client z c)) x (step z (By Stop c) x)
unfolding step Failure.stop
stop-tested z c x = record { one = _; after = _; is = lifted (λ w. put_whole c w x) (whole c x) x (put-whole-back c x) _ _ _ }

module _ (z : Sizes) (v : Volume) where
  fail-alike : (card : ℕ) (value : List ℕ) → Alike z (Fail card value) v
  fail-alike card value =
      record {
        two = not (is_one_of z.n card);
        tested = λ s. subst (λ t. Tested (not t) (stripe_at v s) (step_in z (Fail card value) v s)) (node-range z.n _ card) (fail-tested z _ _ (stripe_at v s));
      }

  stop-alike : (c : ℕ) → Alike z (By Stop c) v
  stop-alike c = record { two = not (is_client z c); tested = λ s. stop-tested z c (stripe_at v s) }

  by_alike : (op : ClientCall) (c : ℕ) → is_stop op ≡ true → Alike z (By op c) v
  by_alike Drop c e = clash e refl
  by_alike Sweep c e = clash e refl
  by_alike Stop c e = stop-alike c
  by_alike Lock c e = clash e refl
  by_alike Weaken c e = clash e refl
  by_alike Tighten c e = clash e refl
  by_alike Write c e = clash e refl
  by_alike Settle c e = clash e refl
  by_alike Unlock c e = clash e refl
  by_alike Quit c e = clash e refl

  each-alike : (call : Call) → is_of_each call ≡ true → Alike z call v
  each-alike (Read i) e = clash e refl
  each-alike (Pick c) e = clash e refl
  each-alike (Swap c i value) e = clash e refl
  each-alike (Fail card value) e = fail-alike card value
  each-alike (Due j) e = clash e refl
  each-alike Tick e = clash e refl
  each-alike (At op c j) e = clash e refl
  each-alike (By op c) e = by_alike op c e

-- ---- where one of a list does

none_last : {A : Type 0} (p : A → Bool) (l : List A) (x : A) → some_of p l ≡ false → p x ≡ false → some_of p (l ++ (x ∷ [])) ≡ false
unfolding some_of
none_last p [] x none f = rw f
none_last p (y ∷ l) x none f = let both = or-none (p y) (some_of p l) none in rw (both.0, none_last p l x both.1 f)

none_of : {A : Type 0} (p : A → Bool) (f : ℕ → A) → ((i : ℕ) → p (f i) ≡ false) → (m : ℕ) → some_of p (list_of m f) ≡ false
unfolding some_of list_of
none_of p f none zero = refl
none_of p f none (suc m) = none_last p (list_of m f) (f m) (none_of p f none m) (none m)

nth_of : {A : Type 0} (d : A) (f : ℕ → A) (m s : ℕ) → s < m → element_at d (list_of m f) (suc s) ≡ f s
unfolding element_at
nth_of d f m s l = get_or-list_of m f s d l

-- ---- the call is the stripe's step in each of them

-- the outcome is that of stripe s there, or refused with 1
abbrev pub InStripe : Sizes → Call → Volume → ℕ → Outcome Volume → Type 0
InStripe z call v s o = (o ≡ refused OutOfLimits v) ⊎ (answered o.answer (stripe_at o.after s) ≡ step_in z call v s)

module _ (z : Sizes) (call : Call) (v : Volume) (A : Alike z call v) (s : ℕ) (l : s < length v.stripes) where
  abbrev here : Outcome Stripe
  here = step_in z call v s

  -- if no stripe refuses it with this number, this one does not
  not-here : (why : ℕ) → eqb 0 why ≡ false → some_refuse why z call v ≡ false → refused_with why here ≡ false
  not-here why other none =
      let d : Outcome Stripe = answered Accepted no_stripe in
      ap (refused_with why) (sym (nth_of d (step_in z call v) (length v.stripes) s l))
      ∙ none-at d (refused_with why) other (outcomes z call v) none (suc s)

  passed : some_refuse 1 z call v ≡ false → (t : Bool) → A.two ≡ t → here ≡ two_tests false t (stripe_at v s) (A.tested s).after
  passed none t e =
      let T = A.tested s in
      let one = first-passed (stripe_at v s) T.after T.one A.two (ap (refused_with 1) (sym T.is) ∙ not-here 1 refl none) in
      T.is ∙ (λ i. two_tests (one i) (e i) (stripe_at v s) T.after)

  out_of_range : some_refuse 2 z call v ≡ true → A.two ≡ true
  out_of_range some =
      is_true A.two (λ f. clash some
      (none_of (refused_with 2) (step_in z call v) (λ i. ap (refused_with 2) (A.tested i).is ∙ not-two (stripe_at v i) _ _ _ f) (length v.stripes)))

  in-range : some_refuse 1 z call v ≡ false → some_refuse 2 z call v ≡ false → A.two ≡ false
  in-range one none =
      second-passed (stripe_at v s) (A.tested s).after A.two (ap (refused_with 2) (sym (passed one A.two refl)) ∙ not-here 2 refl none)

  after-all : stripe_at (all_after z call v) s ≡ here.after
  unfolding element_at
  after-all =
      get_or-map (λ o. o.after) (outcomes z call v) s (answered Accepted no_stripe)
      ∙ ap (λ o. o.after) (nth_of (answered Accepted no_stripe) (step_in z call v) (length v.stripes) s l)

  alike-in : InStripe z call v s (on_each z call v)
  unfolding guard
  alike-in =
      each-ind z v (InStripe z call v s) call (inl refl)
      (λ one some. inr (sym (passed one true (out_of_range some))))
      (λ one none. inr (λ i. answered (sym (ap (λ o. o.answer) (passed one false (in-range one none))) i) (after-all i)))

pub each_in : (z : Sizes) (call : Call) (v : Volume) (s : ℕ) → s < length v.stripes → is_of_each call ≡ true → InStripe z call v s (on_each z call v)
each_in z call v s l e = alike-in z call v (each-alike z v call e) s l
