-- Demand 3, proved, and what C-15 promises of reads: what specs/Guarantee states, of every list of calls. Assumes nothing.
use mathlib.Core.Path.{◌≡◌, refl, sym, ap, subst}
use mathlib.Core.Logic.{◌⊎◌, inl, inr}
use mathlib.Core.Bool.{Bool, true, false, ◌&&◌}
use mathlib.Core.List.{List, [], ◌∷◌}
use Prim.Native.Nat.{ℕ, ◌*◌, ◌≤◌}
use native.Mathlib.Omega.{arith}
use lib.Dec.{eqb}
use lib.ListN.{length}
use borrow.Author.Tests.{eqb-true, not-false}
use Rattle.blocks.specs.Blocks.{block, Bytes}
use Rattle.records.specs.declared.Sizes.{Sizes}
use Rattle.records.specs.declared.NodeCall.{NodeCall}
use Rattle.records.specs.declared.NodeCall.TheVariants.{Add, Check}
use Rattle.records.specs.declared.ClientCall.{ClientCall}
use Rattle.records.specs.declared.ClientCall.TheVariants.{Drop, Sweep, Stop, Lock, Weaken, Tighten, Write, Settle, Unlock, Quit}
use Rattle.records.specs.declared.Refusal.TheVariants.{OutOfLimits}
use Rattle.records.specs.Sizes.{sizes_within}
use Rattle.records.specs.Node.{node_within}
use Rattle.records.specs.Client.{client_within}
use Rattle.machine.specs.Stripe.{Stripe, number, Outcome, Local, guard, at_node, blocks_fit, differences_fit}
use Rattle.machine.specs.Writing as Writing
use Rattle.machine.specs.Calls.{Call, Read, Pick, Swap, Fail, Due, Tick, At, By, step}
use Rattle.machine.specs.Calls as Calls
use Rattle.machine.specs.History.{Event, Kind, SwapInto, AddBy, PickBy, SettleBy, Failure, Other, kind, happened, accepted, nodes_at, sizes_at, finishes}
use Rattle.machine.specs.Guarantee.{Request, Run, Allowed, AllAllowed, made, play, start, value_of, RebuiltWell, Holds, EveryList, Demand3, PartOfAll, KeepsDone, Shows, ReadsPart}
use Rattle.basics.proofs.Tests.{clash, and_both, bool_cases, cond_ind}
use Rattle.machine.proofs.Ledger.{Ledger, Rebuilt, note, no_ledger}
use Rattle.machine.proofs.Invariant.{Laws, Good}
use Rattle.machine.proofs.Bytes.{Block, block_of, ops}
use Rattle.machine.proofs.View.{columns}
use Rattle.machine.proofs.Kept.{Fits, Kept, entry}
use Rattle.machine.proofs.KeptWriting.{swap-kept, add_kept, check-kept, drop-kept, sweep-kept}
use Rattle.machine.proofs.KeptReading.{PartShown, read_kept, read-shown}
use Rattle.machine.proofs.KeptRebuild.{lock-kept, pick-kept, weaken-kept, tighten-kept, write_kept, settle-kept, settle-rebuilt, unlock-kept, quit-kept}
use Rattle.machine.proofs.KeptFailure.{stop-kept, fail-kept}
use Rattle.machine.proofs.KeptAging.{due-kept, tick-kept}
use Rattle.machine.proofs.KeptStart.{fresh-good, fresh-fits}
use Rattle.machine.proofs.Refusals.{limits-same}
use Rattle.machine.proofs.Start.{steady}
use Rattle.machine.proofs.Told.{Told, SwapsBlocks, told-start, told_more, Finishes, finish-is, first_part, rebuilt-well, last-values}
use Rattle.machine.proofs.Rooted.{Rooted, rooted-start, rooted_more, part-of-all}
use Rattle.machine.proofs.CodeLaws.{code_laws}

-- the event of a call and its outcome
abbrev event_of : Call → Outcome Stripe → Event
event_of x o = record { call = x; answer = o.answer; blocks = o.after.blocks }

-- what is known of the outcome of a call where the sizes are z, whatever sizes it was handed
record Known-call (z : Sizes) (h : Ledger Block) (x : Call) (o : Outcome Stripe) : Type 0 where
  kept : Kept z h x o
  swapped : SwapsBlocks z (event_of x o)
  rebuilt : Finishes z h (event_of x o) → Rebuilt (ops z) h (block_of z.b o.after.blocks)
  shown : (i : ℕ) → x ≡ Read i → accepted (event_of x o) ≡ true → Shows (PartShown z h i) o.answer

-- how the stripe stands, where the sizes are z
record Standing (z : Sizes) (h : Ledger Block) (s : Stripe) : Type 0 where
  within : sizes_within z ≡ true
  good : Good (ops z) h (columns z s)
  fits : Fits z s

-- what is known at a point of a list that began with the sizes z
record Known (z : Sizes) (run : Run) : Type 0 where
  ledger : Ledger Block
  stands : Standing (sizes_at z run.past) ledger run.stripe
  told : Told z ledger run.past
  rooted : (i : ℕ) → 1 ≤ i → i ≤ z.k → Rooted z i run.past
  holds : Holds z run
  keeps_done : KeepsDone z run
  reads_part : ReadsPart z run

abbrev is_swap : Kind → Bool
is_swap (SwapInto c i v) = true
is_swap (AddBy c) = false
is_swap (PickBy c) = false
is_swap (SettleBy c) = false
is_swap Failure = false
is_swap Other = false

abbrev is_settle : Kind → Bool
is_settle (SwapInto c i v) = false
is_settle (AddBy c) = false
is_settle (PickBy c) = false
is_settle (SettleBy c) = true
is_settle Failure = false
is_settle Other = false

the_value : {c d i l : ℕ} {v w : List ℕ} → SwapInto c i v ≡ SwapInto d l w → v ≡ w
the_value e = cc

-- an accepted call is past its first test
past-limits : (b : Bool) (l : Local) (rest : Outcome Local) → eqb (number (guard b OutOfLimits l rest).answer) 0 ≡ true → b ≡ false
unfolding guard
past-limits true l rest e = clash e refl
past-limits false l rest e = refl

module _ (z : Sizes) (within : sizes_within z ≡ true) where
  L : Laws (ops z)
  L = code_laws z within

  -- the value of an accepted swap has B bytes
  swap-long : (c i : ℕ) (value : List ℕ) (l : Local) → eqb (number (Writing.swap z c i value l).answer) 0 ≡ true → length value ≡ z.b
  unfolding Writing.swap
  swap-long c i value l e =
      let records = node_within z l.node && client_within z l.client in
      let tables = blocks_fit z l.blocks && differences_fit z l.differences in
      let own = eqb (length value) z.b in
      let all = not-false (sizes_within z && (records && (tables && own))) (past-limits _ l _ e) in
      let rest = (and_both records (tables && own) (and_both (sizes_within z) (records && (tables && own)) all).1).1 in
      eqb-true (length value) z.b (and_both tables own rest).1

  ---- a call answered 1 leaves the stripe, and is nothing to the ledger
  module _ (h : Ledger Block) (s : Stripe) (g : Good (ops z) h (columns z s)) (fit : Fits z s) (x : Call) where
    known-limits : (o : Outcome Stripe) → o.after ≡ s → number o.answer ≡ 1 → Known-call z h x o
    known-limits o same one =
        let refused : eqb (number o.answer) 0 ≡ false = rw one in
        record {
          kept = record { good = rw (refused, same) g; fits = rw same fit };
          swapped = λ c i v is. other (rw refused at is);
          rebuilt = λ F. clash F.is_accepted refused;
          shown = λ i is t. clash t refused;
        }
      where
        other : {A : Type 0} {c i : ℕ} {v : List ℕ} → Other ≡ SwapInto c i v → A
        other q = let t : ◌≡◌ {A = ℕ} 0 1 = cc in absurd (omega arith)

    ---- a call with the list's sizes
    -- what is shown, if it is a read
    reads : (i : ℕ) → x ≡ Read i → accepted (event_of x (step z x s)) ≡ true → Shows (PartShown z h i) (step z x s).answer
    reads i is =
        subst (λ x. accepted (event_of x (step z x s)) ≡ true → Shows (PartShown z h i) (step z x s).answer) (sym is) (read-shown z L h s g fit i)

    -- a call that is no swap
    unswapped : is_swap (kind x) ≡ false → SwapsBlocks z (event_of x (step z x s))
    unswapped no-swap c i v is =
        clash (ap is_swap is) (cond_ind (λ K. is_swap K ≡ false) (accepted (event_of x (step z x s))) (kind x) Other (λ t. no-swap) (λ t. refl))

    -- nor a settle
    plain : is_swap (kind x) ≡ false → is_settle (kind x) ≡ false → Kept z h x (step z x s) → Known-call z h x (step z x s)
    plain no-swap no-settle k =
        record {
          kept = k;
          swapped = unswapped no-swap;
          rebuilt = λ F. clash (ap is_settle F.settle) no-settle;
          shown = reads;
        }

  known-swap : (h : Ledger Block) (s : Stripe) → Good (ops z) h (columns z s) → Fits z s → (c i : ℕ) (value : List ℕ) → Bytes value →
      Known-call z h (Swap c i value) (step z (Swap c i value) s)
  unfolding step
  known-swap h s g fit c i value bytes =
      record {
        kept = swap-kept z L h s g fit c i value bytes;
        swapped = λ d l v is. swapped d l v (bool_cases (accepted e)) is;
        rebuilt = λ F. clash (ap is_settle F.settle) refl;
        shown = reads h s g fit (Swap c i value);
      }
    where
      e : Event
      e = event_of (Swap c i value) (step z (Swap c i value) s)

      swapped : (d l : ℕ) (v : List ℕ) → (accepted e ≡ true) ⊎ (accepted e ≡ false) → happened e ≡ SwapInto d l v → (length v ≡ z.b) × Bytes v
      swapped d l v (inl t) is =
          let same : value ≡ v = the_value (rw t at is) in
          (subst (λ u. length u ≡ z.b) same (swap-long c i value (at_node i c s) t), subst Bytes same bytes)
      swapped d l v (inr t) is = clash (ap is_swap (rw t at is)) refl

  known-call : (h : Ledger Block) (s : Stripe) → Good (ops z) h (columns z s) → Fits z s → (x : Call) → Bytes (value_of x) → Known-call z h x (step z x s)
  known-call h s g fit = by
    where
      quiet : (x : Call) → is_swap (kind x) ≡ false → is_settle (kind x) ≡ false → Kept z h x (step z x s) → Known-call z h x (step z x s)
      quiet = plain h s g fit

      at-node : (op : NodeCall) (c j : ℕ) → Known-call z h (At op c j) (step z (At op c j) s)
      at-node Add c j = quiet (Calls.add c j) refl refl (add_kept z L h s g fit c j)
      at-node Check c j = quiet (Calls.check c j) refl refl (check-kept z L h s g fit c j)

      by-client : (op : ClientCall) (c : ℕ) → Known-call z h (By op c) (step z (By op c) s)
      by-client Drop c = quiet (Calls.drop c) refl refl (drop-kept z L h s g fit c)
      by-client Sweep c = quiet (Calls.sweep c) refl refl (sweep-kept z L h s g fit c)
      by-client Stop c = quiet (Calls.stop c) refl refl (stop-kept z L h s g fit c)
      by-client Lock c = quiet (Calls.lock c) refl refl (lock-kept z L h s g fit c)
      by-client Weaken c = quiet (Calls.weaken c) refl refl (weaken-kept z L h s g fit c)
      by-client Tighten c = quiet (Calls.tighten c) refl refl (tighten-kept z L h s g fit c)
      by-client Write c = quiet (Calls.write c) refl refl (write_kept z L h s g fit c)
      by-client Settle c =
          record {
            kept = settle-kept z L h s g fit c;
            swapped = unswapped h s g fit (Calls.settle c) refl;
            rebuilt = λ F. settle-rebuilt z L h s g fit c F.is_accepted;
            shown = reads h s g fit (Calls.settle c);
          }
      by-client Unlock c = quiet (Calls.unlock c) refl refl (unlock-kept z L h s g fit c)
      by-client Quit c = quiet (Calls.quit c) refl refl (quit-kept z L h s g fit c)

      by : (call : Call) → Bytes (value_of call) → Known-call z h call (step z call s)
      by (Read i) bytes = quiet (Calls.read i) refl refl (read_kept z L h s g fit i)
      by (Pick c) bytes = quiet (Calls.pick c) refl refl (pick-kept z L h s g fit c)
      by (Swap c i value) bytes = known-swap h s g fit c i value bytes
      by (Fail j value) bytes = quiet (Calls.fail j value) refl refl (fail-kept z L h s g fit j value bytes)
      by (Due j) bytes = quiet (Calls.due j) refl refl (due-kept z h s g fit j)
      by Tick bytes = quiet Calls.tick refl refl (tick-kept z h s g fit)
      by (At op c j) bytes = at-node op c j
      by (By op c) bytes = by-client op c

---- one call more
module _ (z : Sizes) (h : Ledger Block) (past : List Event) (T : Told z h past) (R : (i : ℕ) → 1 ≤ i → i ≤ z.k → Rooted z i past)
    (x : Call) (o : Outcome Stripe) where
  abbrev e : Event
  e = event_of x o

  abbrev after : Ledger Block
  after = note (ops (sizes_at z past)) h (entry z x o.answer) (block_of z.b o.after.blocks)

  -- whatever sizes it leaves: from how the stripe stands then, and what the call is if it is a swap, the end of a rebuild or a read
  module _ (S : Standing (sizes_at z (e ∷ past)) after o.after) (swapped : SwapsBlocks z e)
      (rebuilt : finishes z e past ≡ true → RebuiltWell z past o.after.blocks)
      (shown : (i : ℕ) → x ≡ Read i → accepted e ≡ true → Shows (PartOfAll z i past) o.answer) where
    abbrev now : Sizes
    now = sizes_at z (e ∷ past)

    told-after : Told z after (e ∷ past)
    told-after =
        let L = code_laws now S.within in
        told_more z h e past T now.n (omega (arith, L.k_n)) S.fits.blocks S.fits.blocks_bytes swapped

    known-run : Known z (record { stripe = o.after; past = e ∷ past })
    known-run =
        record {
          ledger = after;
          stands = S;
          told = told-after;
          rooted = λ i i1 ik. rooted_more z i e past (R i i1 ik) (λ ends. (rebuilt ends).position i i1 ik);
          holds = record {
            rebuilt = λ d later is ends.
                let same : past ≡ later = cc in
                let own : d ≡ e = cc in
                subst (λ p. RebuiltWell z p o.after.blocks) same (rebuilt (rw (← own, same) ends));
            steady = last-values z after (e ∷ past) told-after S.within o.after.blocks S.fits.blocks S.fits.blocks_bytes
                S.good.inv.ids.no_stale (steady (ops now) (code_laws now S.within) after (columns z o.after) S.good);
          };
          keeps_done = λ d later is ends i i1 ik.
              let same : past ≡ later = cc in
              let own : d ≡ e = cc in
              subst (λ p. PartOfAll z i p (block z.b i o.after.blocks)) same
              (part-of-all z i past o.after.blocks (R i i1 ik) ((rebuilt (rw (← own, same) ends)).position i i1 ik));
          reads_part = λ d later is i call ok.
              let same : past ≡ later = cc in
              let own : d ≡ e = cc in
              rw (own, ← same) (shown i (rw own at call) (rw own at ok));
        }

  -- no call changes the sizes
  nodes-on : nodes_at z.n (e ∷ past) ≡ nodes_at z.n past
  unfolding nodes_at
  nodes-on = refl

  known_next : sizes_within (sizes_at z past) ≡ true → Known-call (sizes_at z past) h x o → Known z (record { stripe = o.after; past = e ∷ past })
  known_next within N = known-run (rw nodes-on (record { within = within; good = N.kept.good; fits = f })) N.swapped rebuilt shown
    where
      f : Fits (sizes_at z past) o.after
      f = N.kept.fits

      rebuilt : finishes z e past ≡ true → RebuiltWell z past o.after.blocks
      rebuilt ends = rebuilt-well z h past T within o.after.blocks f.blocks f.blocks_bytes (N.rebuilt (finish-is z h e past T ends))

      shown : (i : ℕ) → x ≡ Read i → accepted e ≡ true → Shows (PartOfAll z i past) o.answer
      shown i is ok =
          let S = N.shown i is ok in
          let v = S.holds in
          let i1 = v.pos.low in
          let ik = v.pos.high in
          let part = first_part z h past T within v.table v.long v.bytes v.reported i i1 ik v.part in
          record { source = S.source; shown = S.shown; is = S.is; holds = rw v.is (part-of-all z i past v.table (R i i1 ik) part) }

module _ (z : Sizes) where
  ---- the whole list
  known-made : (r : Request) (run : Run) → Allowed z r run → Known z run → Known z (made r run)
  unfolding made
  known-made r run a K = by a.sizes
    where
      now : Sizes
      now = sizes_at z run.past

      S : Standing now K.ledger run.stripe
      S = K.stands

      next : Known-call now K.ledger r.call (step r.sizes r.call run.stripe) → Known z (made r run)
      next = known_next z K.ledger run.past K.told K.rooted r.call (step r.sizes r.call run.stripe) S.within

      by : (r.sizes ≡ now) ⊎ (number (step r.sizes r.call run.stripe).answer ≡ 1) → Known z (made r run)
      by (inl same) = next (rw same (known-call now S.within K.ledger run.stripe S.good S.fits r.call a.bytes))
      by (inr one) =
          next (known-limits now S.within K.ledger run.stripe S.good S.fits r.call (step r.sizes r.call run.stripe)
          (limits-same r.sizes run.stripe r.call one) one)

  known-play : (calls : List Request) (run : Run) → AllAllowed z calls run → Known z run → Known z (play calls run)
  unfolding play AllAllowed
  known-play [] run a K = K
  known-play (r ∷ rs) run a K = known-play rs (made r run) a.1 (known-made r run a.0 K)

  module _ (within : sizes_within z ≡ true) (spare differences : List ℕ) (ls : length spare ≡ z.n * z.b) (ld : length differences ≡ z.m * z.b) (bs : Bytes spare) (bd : Bytes differences) where
    known_start : Known z (start z spare differences)
    unfolding nodes_at
    known_start =
        let L = code_laws z within in
        let good = fresh-good z spare differences L in
        let fits = fresh-fits z spare differences ls ld bs bd in
        let told = told-start z (omega (arith, L.k_n)) in
        record {
          ledger = no_ledger (ops z);
          stands = record { within = within; good = good; fits = fits };
          told = told;
          rooted = λ i i1 ik. rooted-start z i i1 (omega (arith, L.k_n));
          keeps_done = λ e past is. no-event is;
          reads_part = λ e past is. no-event is;
          holds = record {
            rebuilt = λ e past is. no-event is;
            steady = last-values z (no_ledger (ops z)) [] told within (start z spare differences).stripe.blocks fits.blocks
                fits.blocks_bytes good.inv.ids.no_stale
                (steady (ops z) L (no_ledger (ops z)) (columns z (start z spare differences).stripe) good);
          };
        }
      where
        no-event : {A : Type 0} {e : Event} {past : List Event} → ◌≡◌ {A = List Event} [] (e ∷ past) → A
        no-event q = let t : ◌≡◌ {A = ℕ} 0 1 = cc in absurd (omega arith)

known : EveryList Known
known z within spare differences ls ld bs bd calls allowed =
    known-play z calls (start z spare differences) allowed (known_start z within spare differences ls ld bs bd)

pub demand3 : Demand3
demand3 z within spare differences ls ld bs bd calls allowed = (known z within spare differences ls ld bs bd calls allowed).holds

pub keeps_done : EveryList KeepsDone
keeps_done z within spare differences ls ld bs bd calls allowed = (known z within spare differences ls ld bs bd calls allowed).keeps_done

pub reads_part : EveryList ReadsPart
reads_part z within spare differences ls ld bs bd calls allowed = (known z within spare differences ls ld bs bd calls allowed).reads_part
