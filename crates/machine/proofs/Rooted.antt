-- The whole list of calls, across rebuilds. What the last finished rebuild gave at a position is itself the value of a first part of all that was
-- swapped there before it; so a first part of the swaps since then is a first part of all swaps.
--     part-joined                  a part of a part
--     Rooted                       what is known of a position across rebuilds
--     rooted-start, rooted_more    it holds before all calls, and one call more keeps it
--     part-of-all                  a first part since the last finished rebuild is one of the whole list
-- Assumes nothing.
use mathlib.Core.Path.{◌≡◌, refl, sym, ap, ◌∙◌}
use mathlib.Core.Logic.{◌⊎◌, inl, inr}
use mathlib.Core.Bool.{Bool, true, false}
use mathlib.Core.List.{List, [], ◌∷◌, ◌++◌, append_assoc}
use Prim.Native.Nat.{ℕ, ◌+◌, ◌≤◌}
use lib.ListN.{length, take, drop, take-append-drop, replicate}
use lib.Seq.{take-append_seam, take-append-add}
use Rattle.blocks.specs.Blocks.{block}
use Rattle.records.specs.declared.Sizes.{Sizes}
use Rattle.machine.specs.History.{Event, Kind, SwapInto, AddBy, PickBy, SettleBy, Failure, Other, happened, is_done, finishes_by, finishes, nodes_at, given, Written, write_at, gathered, swaps_at, report_by, reported_at, all_swaps_at, all_reported_at, is_among, last_value}
use Rattle.machine.specs.Guarantee.{PartOf, FirstPart}
use Rattle.basics.proofs.Tests.{clash, or-one, or_left, or_right, bool_cases}
use Rattle.machine.proofs.Tables.{zero-block}
use Rattle.machine.proofs.Told.{among-append}

---- a part of a part

among-left : (ws vs : List Written) (w : Written) → is_among w ws ≡ true → is_among w (ws ++ vs) ≡ true
among-left ws vs w a = among-append ws vs w ∙ or_left (is_among w ws) (is_among w vs) a

pub among-right : (ws vs : List Written) (w : Written) → is_among w vs ≡ true → is_among w (ws ++ vs) ≡ true
among-right ws vs w a = among-append ws vs w ∙ or_right (is_among w ws) (is_among w vs) a

among-part : (m : ℕ) (ws : List Written) (w : Written) → is_among w (take m ws) ≡ true → is_among w ws ≡ true
among-part m ws w a = rw (take-append-drop m ws) at (among-left (take m ws) (drop m ws) w a)

-- the last value of writes with x among them is that from x on
last-from : (before : List ℕ) (ws : List Written) (x : Written) (vs : List Written) → last_value before (ws ++ (x ∷ vs)) ≡ last_value x.value vs
unfolding last_value
last-from before [] x vs = refl
last-from before (w ∷ ws) x vs = last-from w.value ws x vs

module _ (zero middle : List ℕ) (old new : List Written) (reported-old reported-new : List Written) (shown : List ℕ)
    (P : PartOf zero old reported-old middle) (Q : PartOf middle new reported-new shown) where
  pub part-joined : PartOf zero (old ++ new) (reported-old ++ reported-new) shown
  unfolding last_value is_among
  part-joined = go (take Q.part new) refl
    where
      -- a first part of the old ones is one of all
      short : take (length (take P.part old)) (old ++ new) ≡ take P.part old
      short =
          ap (λ ws. take (length (take P.part old)) ws)
          (ap (λ ws. ws ++ new) (sym (take-append-drop P.part old)) ∙ append_assoc (take P.part old) (drop P.part old) new)
          ∙ take-append_seam (take P.part old) (drop P.part old ++ new)

      go : (front : List Written) → take Q.part new ≡ front → PartOf zero (old ++ new) (reported-old ++ reported-new) shown
      go [] e = record { part = length (take P.part old); value = rw (short, ← P.value) (Q.value ∙ rw e); done = done }
        where
          by : (w : Written) → (is_among w reported-old ≡ true) ⊎ (is_among w reported-new ≡ true) → is_among w (take P.part old) ≡ true
          by w (inl a) = P.done w a
          by w (inr a) = clash (rw e at (Q.done w a)) refl

          done : (w : Written) → is_among w (reported-old ++ reported-new) ≡ true → is_among w (take (length (take P.part old)) (old ++ new)) ≡ true
          done w a = rw short (by w (or-one (is_among w reported-old) (is_among w reported-new) (sym (among-append reported-old reported-new w) ∙ a)))
      go (x ∷ ws) e =
          record {
            part = length old + Q.part;
            value = rw (long, e, last-from zero old x ws) (Q.value ∙ rw e);
            done = done;
          }
        where
          long : take (length old + Q.part) (old ++ new) ≡ old ++ take Q.part new
          long = take-append-add old new Q.part

          by : (w : Written) → (is_among w reported-old ≡ true) ⊎ (is_among w reported-new ≡ true) → is_among w (old ++ take Q.part new) ≡ true
          by w (inl a) = among-left old (take Q.part new) w (among-part P.part old w (P.done w a))
          by w (inr a) = among-right old (take Q.part new) w (Q.done w a)

          done : (w : Written) → is_among w (reported-old ++ reported-new) ≡ true → is_among w (take (length old + Q.part) (old ++ new)) ≡ true
          done w a = rw long (by w (or-one (is_among w reported-old) (is_among w reported-new) (sym (among-append reported-old reported-new w) ∙ a)))

---- across rebuilds

module _ (z : Sizes) (i : ℕ) where
  -- of position i: all that was swapped and reported there is what was before the last finished rebuild and what was since; and what that rebuild
  -- gave is the value of a first part of what was before
  pub record Rooted (past : List Event) : Type 0 where
    swaps : List Written
    reported : List Written
    all_swaps : all_swaps_at i past ≡ swaps ++ swaps_at z i past
    all_reported : all_reported_at i past ≡ reported ++ reported_at z i past
    root : PartOf (replicate z.b 0) swaps reported (block z.b i (given z past))

  pub part-of-all : (past : List Event) (blocks : List ℕ) → Rooted past → FirstPart z i past blocks →
      PartOf (replicate z.b 0) (all_swaps_at i past) (all_reported_at i past) (block z.b i blocks)
  part-of-all past blocks R P =
      rw (R.all_swaps, R.all_reported)
      (part-joined (replicate z.b 0) (block z.b i (given z past)) R.swaps (swaps_at z i past) R.reported (reported_at z i past)
      (block z.b i blocks) R.root P)

  pub rooted-start : 1 ≤ i → i ≤ z.n → Rooted []
  unfolding all_swaps_at all_reported_at swaps_at reported_at given last_value is_among gathered
  rooted-start i1 in-n =
      record {
        swaps = [];
        reported = [];
        all_swaps = refl;
        all_reported = refl;
        root = record { part = 0; value = zero-block z.b z.n i i1 in-n; done = λ w a. clash a refl };
      }

  module _ (e : Event) (past : List Event) (R : Rooted past) where
    -- the call finishes no rebuild
    goes_on : finishes z e past ≡ false → Rooted (e ∷ past)
    unfolding all_swaps_at all_reported_at swaps_at reported_at given gathered
    goes_on more =
        record {
          swaps = R.swaps;
          reported = R.reported;
          all_swaps = rw (more, R.all_swaps) (append_assoc R.swaps (swaps_at z i past) (write_at i (length past) (happened e)));
          all_reported = rw (more, R.all_reported) (append_assoc R.reported (reported_at z i past) (report_by i (happened e) (is_done e.answer) past));
          root = rw more R.root;
        }

    -- a call that finishes a rebuild is no swap, and reports nothing
    no_write : (n : ℕ) (K : Kind) → finishes_by n K past ≡ true → write_at i (length past) K ≡ []
    no_write n (SwapInto c l value) ends = clash ends refl
    no_write n (AddBy c) ends = refl
    no_write n (PickBy c) ends = refl
    no_write n (SettleBy c) ends = refl
    no_write n Failure ends = refl
    no_write n Other ends = refl

    no-report : (n : ℕ) (K : Kind) (done : Bool) → finishes_by n K past ≡ true → report_by i K done past ≡ []
    no-report n (SwapInto c l value) done ends = refl
    no-report n (AddBy c) done ends = clash ends refl
    no-report n (PickBy c) done ends = refl
    no-report n (SettleBy c) done ends = refl
    no-report n Failure done ends = refl
    no-report n Other done ends = refl

    -- the call finishes a rebuild: all that was is before it now
    ends-anew : finishes z e past ≡ true → FirstPart z i past e.blocks → Rooted (e ∷ past)
    unfolding all_swaps_at all_reported_at swaps_at reported_at given finishes gathered
    ends-anew ends P =
        let bare = no_write (nodes_at z.n past) (happened e) ends in
        let quiet = no-report (nodes_at z.n past) (happened e) (is_done e.answer) ends in
        record {
          swaps = all_swaps_at i past;
          reported = all_reported_at i past;
          all_swaps = rw (ends, bare);
          all_reported = rw (ends, quiet);
          root = rw ends (part-of-all past e.blocks R P);
        }

    pub rooted_more : (finishes z e past ≡ true → FirstPart z i past e.blocks) → Rooted (e ∷ past)
    rooted_more renewed = by (bool_cases (finishes z e past))
      where
        by : (finishes z e past ≡ true) ⊎ (finishes z e past ≡ false) → Rooted (e ∷ past)
        by (inl ends) = ends-anew ends (renewed ends)
        by (inr more) = goes_on more
