-- Document 01, "Rebuild", the two paragraphs on demand 3: what is accepted, done, finished or failed, read off the calls and their answers only.
-- A history lists the calls that were made, the latest first. What is computed from it (swaps, reports) stands in the order of the list of calls,
-- over the whole list or since the last finished rebuild. Sizes are those that the list began with. Quotes are document 01's but where marked.
-- Assumes nothing.
use Rattle.std.specs.Prelude.{Bool, true, false, cond, ◌||◌, List, [], ◌∷◌, ◌++◌, ℕ, suc, ◌*◌, eqb, length, replicate, Option, None, Some}
use Rattle.records.specs.declared.Sizes.{Sizes}
use Rattle.records.specs.declared.NodeCall.{NodeCall}
use Rattle.records.specs.declared.NodeCall.TheVariants.{Add, Check}
use Rattle.records.specs.declared.ClientCall.{ClientCall}
use Rattle.records.specs.declared.ClientCall.TheVariants.{Drop, Sweep, Stop, Lock, Weaken, Tighten, Write, Settle, Unlock, Quit}
use Rattle.machine.specs.Stripe.{Answer, Accepted, Shown, Added, Done, Rebuilt, Told, Refused, number}
use Rattle.machine.specs.Calls.{Call, Read, Pick, Swap, Fail, Due, Tick, At, By}

-- a call that was made, its answer, and the blocks as it left them
pub record Event : Type 0 where
  pub call : Call
  pub answer : Answer
  pub blocks : List ℕ

-- "Accepted: answered with none of the numbers from 1 up."
abbrev pub accepted : Event → Bool
accepted e = eqb (number e.answer) 0

-- the calls that the guarantee speaks of; the others, and the refused, are of no concern
pub data Kind : Type 0 where
  SwapInto : ℕ → ℕ → List ℕ → Kind
  AddBy PickBy SettleBy : ℕ → Kind
  Failure Other : Kind

abbrev pub is_settle : ClientCall → Bool
is_settle Drop = false
is_settle Sweep = false
is_settle Stop = false
is_settle Lock = false
is_settle Weaken = false
is_settle Tighten = false
is_settle Write = false
is_settle Settle = true
is_settle Unlock = false
is_settle Quit = false

abbrev pub kind_at : NodeCall → ℕ → Kind
kind_at Add c = AddBy c
kind_at Check c = Other

abbrev pub kind : Call → Kind
kind (Read i) = Other
kind (Pick c) = PickBy c
kind (Swap c i value) = SwapInto c i value
kind (Fail j value) = Failure
kind (Due j) = Other
kind Tick = Other
kind (At op c j) = kind_at op c
kind (By op c) = cond (is_settle op) (SettleBy c) Other

-- what a call is, if it is accepted
abbrev pub happened : Event → Kind
happened e = cond (accepted e) (kind e.call) Other

abbrev pub is_done : Answer → Bool
is_done Accepted = false
is_done (Shown source block) = false
is_done Added = false
is_done Done = true
is_done Rebuilt = false
is_done (Told finding) = false
is_done (Refused why) = false

-- the accepted settles of client c after its last accepted pick; none before any
abbrev pub count_settle : ℕ → Kind → Option ℕ → Option ℕ
count_settle c (SwapInto d i value) count = count
count_settle c (AddBy d) count = count
count_settle c (PickBy d) count = cond (eqb c d) (Some 0) count
count_settle c (SettleBy d) None = None
count_settle c (SettleBy d) (Some count) = cond (eqb c d) (Some (suc count)) (Some count)
count_settle c Failure count = count
count_settle c Other count = count

unfoldable pub settles : ℕ → List Event → Option ℕ
settles c [] = None
settles c (e ∷ past) = count_settle c (happened e) (settles c past)

abbrev pub is_count : ℕ → Option ℕ → Bool
is_count n None = false
is_count n (Some count) = eqb count n

-- n after these calls, where it was n before them. No call changes it
unfoldable pub nodes_at : ℕ → List Event → ℕ
nodes_at n [] = n
nodes_at n (e ∷ past) = nodes_at n past

-- the sizes after these calls, where the list of calls began with the sizes z
abbrev pub sizes_at : Sizes → List Event → Sizes
sizes_at z past = record { k = z.k; n = nodes_at z.n past; b = z.b; failures = z.failures; m = z.m }

-- "A client's nth accepted settle after its last accepted pick finishes a rebuild"
abbrev pub finishes_by : ℕ → Kind → List Event → Bool
finishes_by n (SwapInto c i value) past = false
finishes_by n (AddBy c) past = false
finishes_by n (PickBy c) past = false
finishes_by n (SettleBy c) past = is_count n (count_settle c (SettleBy c) (settles c past))
finishes_by n Failure past = false
finishes_by n Other past = false

unfoldable pub finishes : Sizes → Event → List Event → Bool
finishes z e past = finishes_by (sizes_at z past).n (happened e) past

-- "what that rebuild gave is the blocks as this settle left them"; where none has finished, "or zero" applies
unfoldable pub given : Sizes → List Event → List ℕ
given z [] = replicate (z.n * z.b) 0
given z (e ∷ past) = cond (finishes z e past) e.blocks (given z past)

-- "A write is an accepted swap": its position, its value, and its place in the list of calls, from 0, which tells it from any other
pub record Written : Type 0 where
  pub position : ℕ
  pub value : List ℕ
  pub place : ℕ

-- the write into position i that a call made at this place is, if it is one, whoever made it
abbrev pub write_at : ℕ → ℕ → Kind → List Written
write_at i place (SwapInto c position value) =
    cond (eqb i position) (record { position = position; value = value; place = place } ∷ []) []
write_at i place (AddBy c) = []
write_at i place (PickBy c) = []
write_at i place (SettleBy c) = []
write_at i place Failure = []
write_at i place Other = []

-- the last write of client c, into any position: the call made at this place if it is one, or else the last one before it
abbrev pub write_by : ℕ → ℕ → Kind → Option Written → Option Written
write_by c place (SwapInto d i value) last = cond (eqb c d) (Some (record { position = i; value = value; place = place })) last
write_by c place (AddBy d) last = last
write_by c place (PickBy d) last = last
write_by c place (SettleBy d) last = last
write_by c place Failure last = last
write_by c place Other last = last

-- "the last accepted swap of the same client"
unfoldable pub last_swap : ℕ → List Event → Option Written
last_swap c [] = None
last_swap c (e ∷ past) = write_by c (length past) (happened e) (last_swap c past)

abbrev pub if_at : ℕ → Option Written → List Written
if_at i None = []
if_at i (Some write) = cond (eqb i write.position) (write ∷ []) []

-- "the answer Done reports the last accepted swap of the same client": the write into position i that a call reports, if it reports one
abbrev pub report_by : ℕ → Kind → Bool → List Event → List Written
report_by i (SwapInto c position value) done past = []
report_by i (AddBy c) done past = cond done (if_at i (last_swap c past)) []
report_by i (PickBy c) done past = []
report_by i (SettleBy c) done past = []
report_by i Failure done past = []
report_by i Other done past = []

---- the writes at a position, over the whole list or since the last finished rebuild

-- what the calls add to a list, in their order; a call that begins it anew leaves it empty
unfoldable pub gathered : (Event → List Event → Bool) → (Event → List Event → List Written) → List Event → List Written
gathered anew added [] = []
gathered anew added (e ∷ past) = cond (anew e past) [] (gathered anew added past ++ added e past)

abbrev pub never : Event → List Event → Bool
never e past = false

abbrev pub swap_at : ℕ → Event → List Event → List Written
swap_at i e past = write_at i (length past) (happened e)

abbrev pub report_at : ℕ → Event → List Event → List Written
report_at i e past = report_by i (happened e) (is_done e.answer) past

-- every swap accepted at i, and every write at i reported done
unfoldable pub all_swaps_at : ℕ → List Event → List Written
all_swaps_at i past = gathered never (swap_at i) past

unfoldable pub all_reported_at : ℕ → List Event → List Written
all_reported_at i past = gathered never (report_at i) past

-- demand 3: "the swaps accepted there since the previous finished rebuild", "every write there reported done since". "Since a rebuild means later in
-- the list than that settle; where none has finished, it means from the start"
unfoldable pub swaps_at : Sizes → ℕ → List Event → List Written
swaps_at z i past = gathered (finishes z) (swap_at i) past

unfoldable pub reported_at : Sizes → ℕ → List Event → List Written
reported_at z i past = gathered (finishes z) (report_at i) past

abbrev pub is_failure : Kind → Bool
is_failure (SwapInto c i value) = false
is_failure (AddBy c) = false
is_failure (PickBy c) = false
is_failure (SettleBy c) = false
is_failure Failure = true
is_failure Other = false

-- a node has failed if "Node j fails" was accepted: since the last finished rebuild
unfoldable pub failed_since : Sizes → List Event → Bool
failed_since z [] = false
failed_since z (e ∷ past) = cond (finishes z e past) false (failed_since z past || is_failure (happened e))

-- the write is one of these
unfoldable pub is_among : Written → List Written → Bool
is_among write [] = false
is_among write (first ∷ writes) = eqb write.place first.place || is_among write writes

-- the last value of these writes; if there are none, what was there before
unfoldable pub last_value : List ℕ → List Written → List ℕ
last_value before [] = before
last_value before (write ∷ writes) = last_value write.value writes
