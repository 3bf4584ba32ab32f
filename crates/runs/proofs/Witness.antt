-- The guarantee of the code is not empty. The calls of proofs/Trace are a run of the entry points on lent tables, and a run of `play` on a stripe by value:
--     writing             no node has failed and every accepted swap is done (`none-failed`, `all_done`), and there is one (`one-swap`)
--     all the calls       the last one finishes a rebuild, and before it the swap was reported done (`done-rebuilt`)
-- Assumes nothing.
use mathlib.Core.Path.{◌≡◌, refl, sym, ap, subst, ◌∙◌}
use mathlib.Core.Bool.{Bool, true, false, not, ◌&&◌}
use mathlib.Core.List.{List, [], ◌∷◌, ◌++◌, map}
use mathlib.Core.Logic.{inl}
use Prim.Native.Nat.{ℕ, zero, suc, ◌≤◌, ◌<◌}
use native.Mathlib.Omega.{arith}
use lib.Dec.{eqb, ltb}
use lib.ListN.{length, get_or, replicate, length-map}
use borrow.Author.Tests.{eqb-true, ltb-true, not-true}
use Rattle.basics.specs.Lists as Lists
use Rattle.gf256.specs.Field as Field
use Rattle.blocks.specs.Blocks as Blocks
use Rattle.blocks.specs.Blocks.{Bytes}
use Rattle.basics.specs.Lists.{list_of}
use Rattle.code.specs.Code as Code
use Rattle.code.specs.Decode as Decode
use Rattle.code.specs.View as Sets
use Rattle.entries.specs.Entries as Entries
use Rattle.records.specs.declared.ClientRecord.{ClientRecord}
use Rattle.records.specs.declared.NodeRecord.{NodeRecord}
use Rattle.records.specs.declared.Refusal.TheVariants.{OutOfLimits}
use Rattle.records.specs.Sizes as Sizes
use Rattle.records.specs.Node as Node
use Rattle.records.specs.Client as Client
use Rattle.records.specs.View.{node_of, client_of}
use Rattle.machine.specs.Stripe as Machine
use Rattle.machine.specs.Stripe.{Stripe, Outcome, answered, guard}
use Rattle.basics.specs.Lists.{every_of}
use Rattle.machine.specs.Writing as Writing
use Rattle.machine.specs.Rebuild as Rebuild
use Rattle.machine.specs.Calls.{Pick, step}
use Rattle.machine.specs.History as History
use Rattle.machine.specs.History.{Event, Written, finishes, swaps_at, reported_at, failed_since, is_among}
use Rattle.machine.specs.Guarantee.{AllDone, LastValues, RebuiltWell, value_of}
use Rattle.basics.proofs.Tests.{clash, and_both}
use Rattle.calls.specs.declared.Answer.TheVariants.{Accepted}
use Rattle.calls.specs.declared.Call.TheVariants as Call
use Rattle.calls.specs.Answers.{answer_of, is_unchanged}
use Rattle.calls.specs.Calls.{step_of}
use Rattle.calls.proofs.Left.{left-free}
use Rattle.stripe.specs.View.{blank_record}
use Rattle.step.specs.View.{Stored, stored, stored_of, blank_client}
use Rattle.taking.specs.Lent.{stripe_in}
use Rattle.taking.specs.Table.{clients_in, nodes_in}
use Rattle.runs.specs.Runs.{Begun, Permitted, Run, begun, called}
use Rattle.runs.specs.Played.{PlaysOne, played}
use Rattle.runs.specs.Entered.{Tables, tables_of, stepped, picked, EntersOne, kept}
use Rattle.runs.proofs.Trace.{z, fresh_record, fresh_client_record, Shot, at_first, writing, locking, after_pick, finishing}
use Rattle.runs.proofs.Played.{demand3-played}
use Rattle.runs.proofs.Entered.{fresh-tables, demand3-entered}

-- ---- the tables of n and m records as a stripe by value, in arrays of 18 and 8

abbrev by_value : Tables → Stored
by_value t =
    stored
    (record {
      nodes = record { items = t.nodes ++ replicate 14 fresh_record };
      clients = record { items = t.clients ++ replicate 6 fresh_client_record };
    })
    t.blocks t.spare t.differences

first_of : {A : Type 0} (m : ℕ) (f : ℕ → A) → list_of (suc m) f ≡ f 0 ∷ list_of m (λ i. f (suc i))
unfolding list_of
first_of zero f = refl
first_of (suc m) f = ap (λ l. l ++ (f (suc m) ∷ [])) (first_of m f)

front : {A B : Type 0} (f : A → B) (d : A) (l rest : List A) → list_of (length l) (λ i. f (get_or (l ++ rest) i d)) ≡ map f l
unfolding list_of
front f d [] rest = refl
front f d (x ∷ l) rest = first_of (length l) (λ i. f (get_or (x ∷ (l ++ rest)) i d)) ∙ ap (λ l. f x ∷ l) (front f d l rest)

abbrev is_full : Tables → Bool
is_full t = eqb (length (nodes_in t.nodes)) 4 && eqb (length (clients_in t.clients)) 2

value-seen : (t : Tables) → is_full t ≡ true → stored_of z (by_value t) ≡ tables_of z t
value-seen t full =
    let both = and_both (eqb (length (nodes_in t.nodes)) 4) _ full in
    let four : 4 ≡ length t.nodes = sym (sym (length-map t.nodes node_of) ∙ eqb-true _ _ both.0) in
    let two : 2 ≡ length t.clients = sym (sym (length-map t.clients client_of) ∙ eqb-true _ _ both.1) in
    λ i. record {
      nodes = (ap (λ n. list_of n (λ i. node_of (get_or (t.nodes ++ replicate 14 fresh_record) i blank_record))) four
          ∙ front node_of blank_record t.nodes (replicate 14 fresh_record)) i;
      clients = (ap (λ m. list_of m (λ i. client_of (get_or (t.clients ++ replicate 6 fresh_client_record) i blank_client))) two
          ∙ front client_of blank_client t.clients (replicate 6 fresh_client_record)) i;
      blocks = t.blocks;
      spare = t.spare;
      differences = t.differences;
    }

-- ---- one more call, in both forms

passes : (test : Bool) → test ≡ true → (s : Stripe) (o : Outcome Stripe) → o ≡ guard (not test) OutOfLimits s o
unfolding guard
passes true e s o = refl
passes false e s o = clash e refl

pub record Ran (t : Tables) (past : List Event) : Type 0 where
  pub full : is_full t ≡ true
  pub entered : Run tables_of EntersOne z t past
  pub played : Run stored_of PlaysOne z (by_value t) past

abbrev pub is_bytes : List ℕ → Bool
is_bytes t = every_of (λ v. ltb v 256) t

pub bytes-are : (t : List ℕ) → is_bytes t ≡ true → Bytes t
unfolding every_of
bytes-are t e = record { small = at t e }
  where
    at : (t : List ℕ) → is_bytes t ≡ true → (q : ℕ) → get_or t q 0 < 256
    at [] e q = omega arith
    at (v ∷ t) e zero = ltb-true v 256 (and_both (ltb v 256) _ e).0
    at (v ∷ t) e (suc q) = at t (and_both (ltb v 256) _ e).1 q

abbrev event_of : Shot → Event
event_of x = record { call = step_of x.call x.value; answer = answer_of x.answer []; blocks = x.after.blocks }

-- accepted, its value is bytes, and it leaves n and m records
abbrev is_fit : Shot → Bool
is_fit x = not (is_unchanged x.answer) && (is_bytes (value_of (step_of x.call x.value)) && is_full x.after)

-- the call is the machine's
abbrev Said : Tables → Shot → Type 0
Said t x = answered (answer_of x.answer []) (tables_of z x.after) ≡ step z (step_of x.call x.value) (tables_of z t)

step-more : (t : Tables) (past : List Event) → Ran t past → (x : Shot) → is_fit x ≡ true → Said t x → Ran x.after (event_of x ∷ past)
step-more t past r x fit said =
    let fits = and_both (not (is_unchanged x.answer)) _ fit in
    let rest = and_both (is_bytes (value_of (step_of x.call x.value))) _ fits.1 in
    let changes = not-true (is_unchanged x.answer) fits.0 in
    let permitted : Permitted z z (step_of x.call x.value) (answer_of x.answer []) =
    record { sizes = inl refl; bytes = bytes-are _ rest.0 } in
    record {
      full = rest.1;
      entered =
          called r.entered permitted
          (kept _ _ _ _ (stepped (record { z = z; call = x.call }) x.value x.answer x.after
          (record {
            said = said ∙ passes (is_full t) r.full (tables_of z t) (step z (step_of x.call x.value) (tables_of z t));
            left = left-free x.answer _ changes;
          })));
      played =
          called r.played permitted
          (played {call = Call.Step x.call} {value = x.value} {answer = x.answer}
          (record {
            said = ap (answered (answer_of x.answer [])) (value-seen x.after rest.1)
                ∙ said ∙ ap (step z (step_of x.call x.value)) (sym (value-seen t r.full));
            left = left-free x.answer _ changes;
          }));
    }

unfoldable AllSaid : Tables → List Shot → Type 0
AllSaid t [] = Unit {0}
AllSaid t (x ∷ xs) = Said t x × AllSaid x.after xs

unfoldable pub last : Tables → List Shot → Tables
last t [] = t
last t (x ∷ xs) = last x.after xs

unfoldable pub events : List Shot → List Event → List Event
events [] past = past
events (x ∷ xs) past = events xs (event_of x ∷ past)

steps-more : (t : Tables) (past : List Event) → Ran t past → (xs : List Shot) → every_of is_fit xs ≡ true → AllSaid t xs → Ran (last t xs) (events xs past)
unfolding every_of AllSaid last events
steps-more t past r [] fit said = r
steps-more t past r (x ∷ xs) fit said =
    let fits = and_both (is_fit x) _ fit in
    steps-more x.after (event_of x ∷ past) (step-more t past r x fits.0 said.0) xs fits.1 said.1

-- a pick, which leaves the blocks and the differences
module _ (t : Tables) (c : ℕ) (nodes : List NodeRecord) (clients : List ClientRecord) (spare : List ℕ) where
  abbrev leaves : Tables
  leaves = record { nodes = nodes; clients = clients; blocks = t.blocks; spare = spare; differences = t.differences }

  -- it is not lent the differences
  abbrev lending : List ℕ → Outcome Stripe → Outcome Stripe
  lending d o =
      let s = o.after in
      answered o.answer (record { nodes = s.nodes; clients = s.clients; blocks = s.blocks; spare = s.spare; differences = d })

  abbrev with : List ℕ → Stripe
  with d = stripe_in t.nodes t.clients t.blocks t.spare d

  pick_more : (past : List Event) → Ran t past → is_full leaves ≡ true → answered Machine.Accepted (tables_of z leaves) ≡ step z (Pick c) (tables_of z t)
      → Ran leaves (record { call = Pick c; answer = Machine.Accepted; blocks = t.blocks } ∷ past)
  unfolding step every_of
  pick_more past r full said =
      let permitted : Permitted z z (Pick c) Machine.Accepted = record { sizes = inl refl; bytes = bytes-are [] refl } in
      record {
        full = full;
        entered =
            called r.entered permitted
            (kept _ _ _ _ (picked (record { z = z; c = c }) Accepted nodes clients spare
            (λ differences. record {
              said = ap (lending differences) said ∙ passes (is_full t) r.full (with differences) (step z (Pick c) (with differences));
              left = tt;
            })));
        played =
            called r.played permitted
            (played {call = Call.Pick c} {value = []} {answer = Accepted}
            (record {
              said = ap (answered Machine.Accepted) (value-seen leaves full) ∙ said ∙ ap (step z (Pick c)) (sym (value-seen t r.full));
              left = tt;
            }));
      }

-- ---- the calls of the trace are the machine's

record Trace : Type 0 where
  writing_said : AllSaid at_first writing
  locking_said : AllSaid (last at_first writing) locking
  pick_said : answered Machine.Accepted (tables_of z after_pick) ≡ step z (Pick 2) (tables_of z (last (last at_first writing) locking))
  finishing_said : AllSaid after_pick finishing

trace : Trace
unfolding AllSaid step Field.double Field.times_bits Field.product Field.squares Field.inverse Blocks.part Blocks.set_part Blocks.byte_at Lists.list_of Blocks.table Blocks.zip Code.code_sizes Code.sum Code.coefficient Code.row Code.symbol Code.redundant Decode.has Decode.set_of Decode.members_from Decode.others Decode.scale Decode.recover Decode.recovered Decode.recovered_table Decode.each Decode.invertible Sizes.sizes_within Entries.same_id Entries.is_in Entries.is_listed Entries.is_recent_in Entries.is_old_in Entries.last_recent_after Entries.aged Entries.id_within Entries.entries_within Node.set_within Node.node_within Entries.ids_within Client.unl_or_exp Client.client_within Lists.element_at Lists.set_at guard every_of Lists.some_of Writing.swap_tests Writing.swap Writing.write_tests Writing.add_tests Writing.add Rebuild.holding Rebuild.lock_node Rebuild.lock Rebuild.recent_ids Rebuild.at_position Rebuild.largest Rebuild.count_init Rebuild.largest_epoch Rebuild.pick_now Rebuild.pick Rebuild.write Rebuild.settle Sets.node_set_of last
trace =
    record {
      writing_said = (refl, (refl, (refl, tt)));
      locking_said = (refl, (refl, (refl, (refl, tt))));
      pick_said = refl;
      finishing_said = (refl, (refl, (refl, (refl, (refl, (refl, (refl, (refl, tt))))))));
    }

-- ---- the runs

first-begun : Begun z (tables_of z at_first)
unfolding every_of Lists.list_of Decode.set_of Sets.node_set_of
first-begun =
    record {
      is_fresh = fresh-tables z fresh_record fresh_client_record at_first.spare at_first.differences refl refl;
      spare = refl;
      differences = refl;
      spare_bytes = bytes-are _ refl;
      differences_bytes = bytes-are _ refl;
    }

first : Ran at_first []
first = record { full = refl; entered = begun first-begun; played = begun (subst (Begun z) (sym (value-seen at_first refl)) first-begun) }

abbrev past_written : List Event
past_written = events writing []

abbrev past_picked : List Event
past_picked = record { call = Pick 2; answer = Machine.Accepted; blocks = (last (last at_first writing) locking).blocks } ∷ events locking past_written

abbrev past_rebuilt : List Event
past_rebuilt = events finishing past_picked

pub written : Ran (last at_first writing) past_written
unfolding every_of
written = steps-more at_first [] first writing refl trace.writing_said

pub rebuilt : Ran (last after_pick finishing) past_rebuilt
unfolding every_of last
rebuilt =
    let locked = steps-more (last at_first writing) past_written written locking refl trace.locking_said in
    let picked =
    pick_more (last (last at_first writing) locking) 2 after_pick.nodes after_pick.clients after_pick.spare
    (events locking past_written) locked refl trace.pick_said in
    steps-more after_pick past_picked picked finishing refl trace.finishing_said

-- ---- what they are by the definitions of machine/specs/History

abbrev the_write : Written
the_write = record { position = 1; value = 1 ∷ []; place = 0 }

-- what a history has since the last finished rebuild, at positions 1 and 2
record Since : Type 0 where
  failed : Bool
  swaps : List Written
  reported : List Written
  elsewhere : List Written

abbrev since : List Event → Since
since past = record { failed = failed_since z past; swaps = swaps_at z 1 past; reported = reported_at z 1 past; elsewhere = swaps_at z 2 past }

written-since : since past_written ≡ record { failed = false; swaps = the_write ∷ []; reported = the_write ∷ []; elsewhere = [] }
unfolding events last History.settles History.nodes_at History.finishes History.swaps_at History.last_swap History.reported_at History.failed_since History.gathered
written-since = refl

pub none-failed : failed_since z past_written ≡ false
none-failed = ap (λ (x : Since). x.failed) written-since

pub one-swap : swaps_at z 1 past_written ≡ the_write ∷ []
one-swap = ap (λ (x : Since). x.swaps) written-since

pub all_done : AllDone z past_written
unfolding is_among
all_done i low high w among = at i low high among
  where
    at : (i : ℕ) → 1 ≤ i → i ≤ 2 → is_among w (swaps_at z i past_written) ≡ true → is_among w (reported_at z i past_written) ≡ true
    at zero low high among = absurd (omega arith)
    at (suc zero) low high among = ap (is_among w) (ap (λ (x : Since). x.reported) written-since ∙ sym one-swap) ∙ among
    at (suc (suc zero)) low high among = clash among (ap (is_among w) (ap (λ (x : Since). x.elsewhere) written-since))
    at (suc (suc (suc i))) low high among = absurd (omega arith)

-- whether the last call finished a rebuild; and before it, the swaps and the reports at position 1
record Ended : Type 0 where
  finished : Bool
  swaps : List Written
  reported : List Written

abbrev ended : List Event → Ended
ended [] = record { finished = false; swaps = []; reported = [] }
ended (e ∷ past) = record { finished = finishes z e past; swaps = swaps_at z 1 past; reported = reported_at z 1 past }

pub done-rebuilt : ended past_rebuilt ≡ record { finished = true; swaps = the_write ∷ []; reported = the_write ∷ [] }
unfolding events last History.settles History.nodes_at History.finishes History.swaps_at History.last_swap History.reported_at History.failed_since History.gathered
done-rebuilt = refl

-- ---- so demand 3 says of them

within : Sizes.sizes_within z ≡ true
unfolding Sizes.sizes_within Code.code_sizes
within = refl

pub written-values : LastValues z past_written (last at_first writing).blocks × LastValues z past_written (by_value (last at_first writing)).blocks
written-values = (
  (demand3-entered z within (last at_first writing) past_written written.entered).steady none-failed all_done,
  (demand3-played z within (by_value (last at_first writing)) past_written written.played).steady none-failed all_done,
)

pub rebuilt-well : (e : Event) (past : List Event) → past_rebuilt ≡ e ∷ past
    → RebuiltWell z past (last after_pick finishing).blocks × RebuiltWell z past (by_value (last after_pick finishing)).blocks
rebuilt-well e past is =
    let ends : finishes z e past ≡ true = ap (λ p. (ended p).finished) (sym is) ∙ ap (λ (x : Ended). x.finished) done-rebuilt in (
      (demand3-entered z within (last after_pick finishing) past_rebuilt rebuilt.entered).rebuilt e past is ends,
      (demand3-played z within (by_value (last after_pick finishing)) past_rebuilt rebuilt.played).rebuilt e past is ends,
    )
