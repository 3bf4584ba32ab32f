-- The guarantee is not empty. Lists of calls that it covers (`covered`), what they are by the definitions of specs/History, and what it says of them:
--     example 6           the last call finishes a rebuild; before it one swap was accepted, and none was reported done (`half-rebuilt`)
--     written, rebuild    the last call finishes a rebuild; before it one swap was accepted, and it was reported done (`done-rebuilt`, `done-kept`)
--     written             no node has failed and every accepted swap is done (`none-failed`, `all_done`), and there is one (`one-swap`, `written-values`)
-- and lists that end with a read of position 1:
--     written, locks      before the pick: answered 4 (`locked-read`)
--     swapped, picked     while the rebuild writes: the spare's block, zero, where the live block has the swap, which is not done (`picked-read`)
--     written, rebuild    after the nth settle: the spare's block, with the write done there before, and no swap since the rebuild (`settled-read`)
-- of the last two C-15 says that what is shown is a first part (`picked-shown`, `settled-shown`).
-- Assumes nothing.
use mathlib.Core.Path.{◌≡◌, refl, sym, ap, subst, ◌∙◌}
use mathlib.Core.Bool.{Bool, true, false}
use mathlib.Core.List.{List, [], ◌∷◌, ◌++◌, map}
use mathlib.Core.Logic.{inl}
use Prim.Native.Nat.{ℕ, zero, suc, ◌≤◌, ◌<◌}
use native.Mathlib.Omega.{arith}
use lib.Dec.{eqb}
use lib.ListN.{length, get_or}
use borrow.Author.Tests.{eqb-true}
use Rattle.basics.specs.Lists as Lists
use Rattle.records.specs.declared.Sizes.{Sizes}
use Rattle.records.specs.declared.Source.TheVariants.{Spare}
use Rattle.records.specs.declared.Refusal.TheVariants.{WrongMode}
use Rattle.records.specs.declared.Opmode.TheVariants.{Norm}
use Rattle.records.specs.declared.Lmode.TheVariants.{L1}
use Rattle.gf256.specs.Field as Field
use Rattle.blocks.specs.Blocks as Blocks
use Rattle.blocks.specs.Blocks.{Bytes}
use Rattle.code.specs.Code as Code
use Rattle.code.specs.Decode as Decode
use Rattle.entries.specs.Entries as Entries
use Rattle.records.specs.Sizes as Sizes
use Rattle.records.specs.Node as Node
use Rattle.records.specs.Client as Client
use Rattle.machine.specs.Stripe as Stripe
use Rattle.machine.specs.Stripe.{Answer, Accepted, Shown, Refused, number}
use Rattle.basics.specs.Lists.{every_of}
use Rattle.machine.specs.Writing as Writing
use Rattle.machine.specs.Reading as Reading
use Rattle.machine.specs.Rebuild as Rebuild
use Rattle.machine.specs.Failure as Failure
use Rattle.machine.specs.Calls.{Call, read, swap, add, stop, pick, write, settle, step}
use Rattle.machine.specs.History as History
use Rattle.machine.specs.History.{Event, Written, nodes_at, sizes_at, finishes, swaps_at, reported_at, all_swaps_at, all_reported_at, failed_since, is_among}
use Rattle.machine.specs.Guarantee.{Request, Run, AllAllowed, AllDone, LastValues, RebuiltWell, Holds, EveryList, PartOfAll, Shows, ReadsPart, value_of, made, play, start}
use Rattle.machine.specs.Examples.{sizes, times, locks, half_written}
use Rattle.basics.proofs.Tests.{clash, and_both}
use Rattle.machine.proofs.Theorem.{demand3, reads_part}

abbrev z : Sizes
z = sizes 1

-- client 1 writes 01 into position 1; the second add is answered Done
abbrev pub written : List Call
written = swap 1 1 (1 ∷ []) ∷ add 1 3 ∷ add 1 4 ∷ []

-- client 2 rebuilds the stripe, up to its last settle
abbrev pub rebuild : List Call
rebuild = locks ++ (pick 2 ∷ (times 4 (write 2) ++ times 4 (settle 2)))

-- client 1 swaps 01 into position 1 and stops
abbrev pub swapped : List Call
swapped = swap 1 1 (1 ∷ []) ∷ stop 1 ∷ []

---- what the lists are
abbrev spare : List ℕ
spare = 170 ∷ 170 ∷ 170 ∷ 170 ∷ []

abbrev differences : List ℕ
differences = 85 ∷ 85 ∷ []

abbrev begin : Run
begin = start z spare differences

abbrev requests : List Call → List Request
requests calls = map (λ call. record { sizes = z; call = call }) calls

abbrev run_of : List Call → Run
run_of calls = play (requests calls) begin

abbrev past_of : List Call → List Event
past_of calls = (run_of calls).past

abbrev the_write : Written
the_write = record { position = 1; value = 1 ∷ []; place = 0 }

-- whether the last call finished a rebuild, with the blocks that it left; and before it, the swaps and the reports at position 1
record Ended : Type 0 where
  finished : Bool
  blocks : List ℕ
  swaps : List Written
  reported : List Written

abbrev ended : List Event → Ended
ended [] = record { finished = false; blocks = []; swaps = []; reported = [] }
ended (e ∷ past) = record { finished = finishes z e past; blocks = e.blocks; swaps = swaps_at z 1 past; reported = reported_at z 1 past }

-- example 6
pub half-rebuilt : ended (past_of (half_written ++ rebuild)) ≡
    record { finished = true; blocks = 1 ∷ 0 ∷ 142 ∷ 244 ∷ []; swaps = the_write ∷ []; reported = [] }
unfolding times step Field.double Field.times_bits Field.product Field.squares Field.inverse Blocks.part Blocks.set_part Blocks.byte_at Lists.list_of Blocks.table Blocks.zip Code.code_sizes Code.sum Code.coefficient Code.row Code.symbol Code.redundant Decode.has Decode.set_of Decode.members_from Decode.others Decode.scale Decode.recover Decode.recovered Decode.recovered_table Decode.each Decode.invertible Sizes.sizes_within Entries.same_id Entries.is_in Entries.is_listed Entries.is_recent_in Entries.is_old_in Entries.last_recent_after Entries.aged Entries.id_within Entries.entries_within Node.set_within Node.node_within Entries.ids_within Client.unl_or_exp Client.client_within Lists.element_at Lists.set_at Stripe.guard Lists.every_of Lists.some_of Writing.swap_tests Writing.swap Writing.write_tests Writing.add_tests Writing.add Failure.stop Failure.fail Rebuild.holding Rebuild.lock_node Rebuild.lock Rebuild.recent_ids Rebuild.at_position Rebuild.largest Rebuild.count_init Rebuild.largest_epoch Rebuild.pick_now Rebuild.pick Rebuild.write Rebuild.settle made play History.settles History.nodes_at History.finishes History.swaps_at History.last_swap History.reported_at History.failed_since History.gathered
half-rebuilt = refl

pub done-rebuilt : ended (past_of (written ++ rebuild)) ≡
    record { finished = true; blocks = 1 ∷ 0 ∷ 142 ∷ 244 ∷ []; swaps = the_write ∷ []; reported = the_write ∷ [] }
unfolding times step Field.double Field.times_bits Field.product Field.squares Field.inverse Blocks.part Blocks.set_part Blocks.byte_at Lists.list_of Blocks.table Blocks.zip Code.code_sizes Code.sum Code.coefficient Code.row Code.symbol Code.redundant Decode.has Decode.set_of Decode.members_from Decode.others Decode.scale Decode.recover Decode.recovered Decode.recovered_table Decode.each Decode.invertible Sizes.sizes_within Entries.same_id Entries.is_in Entries.is_listed Entries.is_recent_in Entries.is_old_in Entries.last_recent_after Entries.aged Entries.id_within Entries.entries_within Node.set_within Node.node_within Entries.ids_within Client.unl_or_exp Client.client_within Lists.element_at Lists.set_at Stripe.guard Lists.every_of Lists.some_of Writing.swap_tests Writing.swap Writing.write_tests Writing.add_tests Writing.add Failure.stop Failure.fail Rebuild.holding Rebuild.lock_node Rebuild.lock Rebuild.recent_ids Rebuild.at_position Rebuild.largest Rebuild.count_init Rebuild.largest_epoch Rebuild.pick_now Rebuild.pick Rebuild.write Rebuild.settle made play History.settles History.nodes_at History.finishes History.swaps_at History.last_swap History.reported_at History.failed_since History.gathered
done-rebuilt = refl

-- the last call, a read, with its answer and the blocks; and before it, of position 1, all swaps, all reports, and the swaps since the last finished
-- rebuild
record Asked : Type 0 where
  call : Call
  answer : Answer
  blocks : List ℕ
  swaps : List Written
  reported : List Written
  since : List Written

abbrev asked : List Event → Asked
asked [] = record { call = read 0; answer = Accepted; blocks = []; swaps = []; reported = []; since = [] }
asked (e ∷ past) =
    record {
      call = e.call;
      answer = e.answer;
      blocks = e.blocks;
      swaps = all_swaps_at 1 past;
      reported = all_reported_at 1 past;
      since = swaps_at z 1 past;
    }

abbrev read-locked : List Call
read-locked = written ++ (locks ++ (read 1 ∷ []))

abbrev read-picked : List Call
read-picked = swapped ++ (locks ++ (pick 2 ∷ read 1 ∷ []))

abbrev read-settled : List Call
read-settled = written ++ (rebuild ++ (read 1 ∷ []))

pub locked-read : asked (past_of read-locked) ≡
    record {
      call = read 1;
      answer = Refused (WrongMode Norm L1);
      blocks = 1 ∷ 0 ∷ 142 ∷ 244 ∷ [];
      swaps = the_write ∷ [];
      reported = the_write ∷ [];
      since = the_write ∷ [];
    }
unfolding times step Field.double Field.times_bits Field.product Field.squares Field.inverse Blocks.part Blocks.set_part Blocks.byte_at Lists.list_of Blocks.table Blocks.zip Code.code_sizes Code.sum Code.coefficient Code.row Code.symbol Code.redundant Decode.has Decode.set_of Decode.members_from Decode.others Decode.scale Decode.recover Decode.recovered Decode.recovered_table Decode.each Decode.invertible Sizes.sizes_within Entries.same_id Entries.is_in Entries.is_listed Entries.is_recent_in Entries.is_old_in Entries.last_recent_after Entries.aged Entries.id_within Entries.entries_within Node.set_within Node.node_within Entries.ids_within Client.unl_or_exp Client.client_within Lists.element_at Lists.set_at Stripe.guard Lists.every_of Lists.some_of Reading.read_or Reading.read Writing.swap_tests Writing.swap Writing.write_tests Writing.add_tests Writing.add Failure.stop Failure.fail Rebuild.holding Rebuild.lock_node Rebuild.lock Rebuild.recent_ids Rebuild.at_position Rebuild.largest Rebuild.count_init Rebuild.largest_epoch Rebuild.pick_now Rebuild.pick Rebuild.write Rebuild.settle made play History.settles History.nodes_at History.finishes History.swaps_at History.last_swap History.reported_at History.failed_since History.gathered History.all_swaps_at History.all_reported_at
locked-read = refl

pub picked-read : asked (past_of read-picked) ≡
    record { call = read 1; answer = Shown Spare (0 ∷ []); blocks = 1 ∷ 0 ∷ 0 ∷ 0 ∷ []; swaps = the_write ∷ []; reported = []; since = the_write ∷ [] }
unfolding times step Field.double Field.times_bits Field.product Field.squares Field.inverse Blocks.part Blocks.set_part Blocks.byte_at Lists.list_of Blocks.table Blocks.zip Code.code_sizes Code.sum Code.coefficient Code.row Code.symbol Code.redundant Decode.has Decode.set_of Decode.members_from Decode.others Decode.scale Decode.recover Decode.recovered Decode.recovered_table Decode.each Decode.invertible Sizes.sizes_within Entries.same_id Entries.is_in Entries.is_listed Entries.is_recent_in Entries.is_old_in Entries.last_recent_after Entries.aged Entries.id_within Entries.entries_within Node.set_within Node.node_within Entries.ids_within Client.unl_or_exp Client.client_within Lists.element_at Lists.set_at Stripe.guard Lists.every_of Lists.some_of Reading.read_or Reading.read Writing.swap_tests Writing.swap Writing.write_tests Writing.add_tests Writing.add Failure.stop Failure.fail Rebuild.holding Rebuild.lock_node Rebuild.lock Rebuild.recent_ids Rebuild.at_position Rebuild.largest Rebuild.count_init Rebuild.largest_epoch Rebuild.pick_now Rebuild.pick Rebuild.write Rebuild.settle made play History.settles History.nodes_at History.finishes History.swaps_at History.last_swap History.reported_at History.failed_since History.gathered History.all_swaps_at History.all_reported_at
picked-read = refl

pub settled-read : asked (past_of read-settled) ≡
    record { call = read 1; answer = Shown Spare (1 ∷ []); blocks = 1 ∷ 0 ∷ 142 ∷ 244 ∷ []; swaps = the_write ∷ []; reported = the_write ∷ []; since = [] }
unfolding times step Field.double Field.times_bits Field.product Field.squares Field.inverse Blocks.part Blocks.set_part Blocks.byte_at Lists.list_of Blocks.table Blocks.zip Code.code_sizes Code.sum Code.coefficient Code.row Code.symbol Code.redundant Decode.has Decode.set_of Decode.members_from Decode.others Decode.scale Decode.recover Decode.recovered Decode.recovered_table Decode.each Decode.invertible Sizes.sizes_within Entries.same_id Entries.is_in Entries.is_listed Entries.is_recent_in Entries.is_old_in Entries.last_recent_after Entries.aged Entries.id_within Entries.entries_within Node.set_within Node.node_within Entries.ids_within Client.unl_or_exp Client.client_within Lists.element_at Lists.set_at Stripe.guard Lists.every_of Lists.some_of Reading.read_or Reading.read Writing.swap_tests Writing.swap Writing.write_tests Writing.add_tests Writing.add Failure.stop Failure.fail Rebuild.holding Rebuild.lock_node Rebuild.lock Rebuild.recent_ids Rebuild.at_position Rebuild.largest Rebuild.count_init Rebuild.largest_epoch Rebuild.pick_now Rebuild.pick Rebuild.write Rebuild.settle made play History.settles History.nodes_at History.finishes History.swaps_at History.last_swap History.reported_at History.failed_since History.gathered History.all_swaps_at History.all_reported_at
settled-read = refl

-- what a history has since the last finished rebuild, at positions 1 and 2
record Since : Type 0 where
  failed : Bool
  swaps : List Written
  reported : List Written
  elsewhere : List Written

abbrev since : List Event → Since
since past = record { failed = failed_since z past; swaps = swaps_at z 1 past; reported = reported_at z 1 past; elsewhere = swaps_at z 2 past }

written-since : since (past_of written) ≡ record { failed = false; swaps = the_write ∷ []; reported = the_write ∷ []; elsewhere = [] }
unfolding times step Field.double Field.times_bits Field.product Field.squares Field.inverse Blocks.part Blocks.set_part Blocks.byte_at Lists.list_of Blocks.table Blocks.zip Code.code_sizes Code.sum Code.coefficient Code.row Code.symbol Code.redundant Decode.has Decode.set_of Decode.members_from Decode.others Decode.scale Decode.recover Decode.recovered Decode.recovered_table Decode.each Decode.invertible Sizes.sizes_within Entries.same_id Entries.is_in Entries.is_listed Entries.is_recent_in Entries.is_old_in Entries.last_recent_after Entries.aged Entries.id_within Entries.entries_within Node.set_within Node.node_within Entries.ids_within Client.unl_or_exp Client.client_within Lists.element_at Lists.set_at Stripe.guard Lists.every_of Lists.some_of Writing.swap_tests Writing.swap Writing.write_tests Writing.add_tests Writing.add Failure.stop Failure.fail Rebuild.holding Rebuild.lock_node Rebuild.lock Rebuild.recent_ids Rebuild.at_position Rebuild.largest Rebuild.count_init Rebuild.largest_epoch Rebuild.pick_now Rebuild.pick Rebuild.write Rebuild.settle made play History.settles History.nodes_at History.finishes History.swaps_at History.last_swap History.reported_at History.failed_since History.gathered
written-since = refl

pub none-failed : failed_since z (past_of written) ≡ false
none-failed = ap (λ (t : Since). t.failed) written-since

pub one-swap : swaps_at z 1 (past_of written) ≡ the_write ∷ []
one-swap = ap (λ (t : Since). t.swaps) written-since

pub all_done : AllDone z (past_of written)
unfolding is_among
all_done i low high w among = at i low high among
  where
    at : (i : ℕ) → 1 ≤ i → i ≤ 2 → is_among w (swaps_at z i (past_of written)) ≡ true → is_among w (reported_at z i (past_of written)) ≡ true
    at zero low high among = absurd (omega arith)
    at (suc zero) low high among = ap (is_among w) (ap (λ (t : Since). t.reported) written-since ∙ sym one-swap) ∙ among
    at (suc (suc zero)) low high among = clash among (ap (is_among w) (ap (λ (t : Since). t.elsewhere) written-since))
    at (suc (suc (suc i))) low high among = absurd (omega arith)

---- the guarantee covers them
-- no call changes n
same_nodes : (past : List Event) → nodes_at 4 past ≡ 4
unfolding nodes_at
same_nodes [] = refl
same_nodes (e ∷ past) = same_nodes past

same-sizes : (past : List Event) → sizes_at z past ≡ z
same-sizes past = rw (same_nodes past)

---- their values are bytes
no_byte : Bytes []
no_byte = record { small = λ q. omega arith }

one_more : (v : ℕ) (t : List ℕ) → v < 256 → Bytes t → Bytes (v ∷ t)
one_more v t small bytes = record { small = at }
  where
    at : (q : ℕ) → get_or (v ∷ t) q 0 < 256
    at zero = small
    at (suc q) = bytes.small q

unfoldable AllBytes : List Call → Type 0
AllBytes [] = Unit {0}
AllBytes (call ∷ calls) = Bytes (value_of call) × AllBytes calls

-- the calls after the swap have none
bare-bytes : (calls : List Call) → every_of (λ call. eqb (length (value_of call)) 0) calls ≡ true → AllBytes calls
unfolding AllBytes every_of
bare-bytes [] e = tt
bare-bytes (call ∷ calls) e =
    let each = and_both (eqb (length (value_of call)) 0) _ e in
    (subst Bytes (sym (none (value_of call) (eqb-true _ _ each.0))) no_byte, bare-bytes calls each.1)
  where
    none : (v : List ℕ) → length v ≡ 0 → v ≡ []
    none [] q = refl
    none (x ∷ v) q = absurd (omega arith)

allowed : (calls : List Call) (run : Run) → AllBytes calls → AllAllowed z (requests calls) run
unfolding AllBytes AllAllowed
allowed [] run bytes = tt
allowed (call ∷ calls) run bytes =
    (record { sizes = inl (sym (same-sizes run.past)); bytes = bytes.0 }, allowed calls (made (record { sizes = z; call = call }) run) bytes.1)

pub covered : (calls : List Call) → every_of (λ call. eqb (length (value_of call)) 0) calls ≡ true →
    AllAllowed z (requests (swap 1 1 (1 ∷ []) ∷ calls)) begin
unfolding AllBytes
covered calls bare = allowed (swap 1 1 (1 ∷ []) ∷ calls) begin (one_more 1 [] (omega arith) no_byte, bare-bytes calls bare)

---- so it says of them
-- what is proved of every list
said : (P : Sizes → Run → Type 0) → EveryList P → (calls : List Call) → every_of (λ call. eqb (length (value_of call)) 0) calls ≡ true →
    P z (run_of (swap 1 1 (1 ∷ []) ∷ calls))
unfolding Sizes.sizes_within Code.code_sizes
said P proved calls bare =
    let small : 170 < 256 = omega arith in
    let less : 85 < 256 = omega arith in
    proved z refl spare differences refl refl
    (one_more 170 _ small (one_more 170 _ small (one_more 170 _ small (one_more 170 _ small no_byte)))) (one_more 85 _ less (one_more 85 _ less no_byte))
    (requests (swap 1 1 (1 ∷ []) ∷ calls)) (covered calls bare)

pub written-values : LastValues z (past_of written) (run_of written).stripe.blocks
unfolding every_of
written-values = (said Holds demand3 (add 1 3 ∷ add 1 4 ∷ []) refl).steady none-failed all_done

pub done-kept : (e : Event) (past : List Event) → past_of (written ++ rebuild) ≡ e ∷ past → RebuiltWell z past (run_of (written ++ rebuild)).stripe.blocks
unfolding every_of times
done-kept e past is =
    (said Holds demand3 (add 1 3 ∷ add 1 4 ∷ rebuild) refl).rebuilt e past is
    (ap (λ p. (ended p).finished) (sym is) ∙ ap (λ (t : Ended). t.finished) done-rebuilt)

-- of an accepted read that the list ends with
shown-part : (calls : List Call) → every_of (λ call. eqb (length (value_of call)) 0) calls ≡ true → (a : Asked) →
    asked (past_of (swap 1 1 (1 ∷ []) ∷ calls)) ≡ a → a.call ≡ read 1 → eqb (number a.answer) 0 ≡ true →
    (e : Event) (past : List Event) → past_of (swap 1 1 (1 ∷ []) ∷ calls) ≡ e ∷ past → Shows (PartOfAll z 1 past) e.answer
shown-part calls bare a is call ok e past ends =
    let same : asked (e ∷ past) ≡ a = ap asked (sym ends) ∙ is in
    said ReadsPart reads_part calls bare e past ends 1 (ap (λ (t : Asked). t.call) same ∙ call)
    (ap (λ (t : Asked). eqb (number t.answer) 0) same ∙ ok)

pub picked-shown : (e : Event) (past : List Event) → past_of read-picked ≡ e ∷ past → Shows (PartOfAll z 1 past) e.answer
unfolding every_of times
picked-shown = shown-part (stop 1 ∷ (locks ++ (pick 2 ∷ read 1 ∷ []))) refl _ picked-read refl refl

pub settled-shown : (e : Event) (past : List Event) → past_of read-settled ≡ e ∷ past → Shows (PartOfAll z 1 past) e.answer
unfolding every_of times
settled-shown = shown-part (add 1 3 ∷ add 1 4 ∷ (rebuild ++ (read 1 ∷ []))) refl _ settled-read refl refl
