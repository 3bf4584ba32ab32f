-- A call on its way over the stripes: the volume's own tests, the stripes that it goes to, what it is in each. Assumes nothing.
use Rattle.std.specs.Prelude.{Bool, true, false, cond, ◌&&◌, ◌||◌, not, List, Err, Ok, Result, ℕ, ◌+◌, ◌%◌, eqb, leb, length}
use Rattle.std.specs.List.{enumerate_from, list_all}
use Rattle.calls.specs.declared.Answer.{Answer}
use Rattle.calls.specs.declared.StepCall.{StepCall}
use Rattle.calls.specs.declared.StepCall.TheVariants.{Swap, Fail, Due, Tick, At, By}
use Rattle.calls.specs.Answers.{shown_part}
use Rattle.calls.specs.Calls.{caller}
use Rattle.layout.specs.Layout.{node_for}
use Rattle.parts.specs.Inside.{part_in}
use Rattle.records.specs.declared.ClientRecord.{ClientRecord}
use Rattle.records.specs.declared.NodeRecord.{NodeRecord}
use Rattle.records.specs.declared.Refusal.{Refusal}
use Rattle.records.specs.declared.Refusal.TheVariants.{OutOfLimits, OutOfRange}
use Rattle.records.specs.declared.Sizes.{Sizes}
use Rattle.records.specs.Client.{client_within}
use Rattle.records.specs.Node.{node_within}
use Rattle.records.specs.Sizes.{sizes_within}
use Rattle.records.specs.View.{client_of, node_of}
use Rattle.tables.specs.Parts.{lengths_of, part_from, part_of, part_to, table_blocks, volume_within}
use Rattle.taking.specs.declared.PickRequest.{PickRequest}
use Rattle.taking.specs.declared.SizedRead.{SizedRead}
use Rattle.taking.specs.declared.Request.{Request}
use Rattle.volume.specs.Volume.{is_stop}
use Rattle.routing.specs.declared.ReadRequest as read
use Rattle.routing.specs.declared.SizedRead as sized
use Rattle.routing.specs.declared.Request as request
use Rattle.routing.specs.declared.VolumeCall.{VolumeCall}
use Rattle.routing.specs.declared.VolumeCall.TheVariants.{Pick, Step}

-- ---- the calls

abbrev pub is_stop_step : StepCall → Bool
is_stop_step (Swap c i) = false
is_stop_step (Fail card) = false
is_stop_step (Due j) = false
is_stop_step Tick = false
is_stop_step (At op c j) = false
is_stop_step (By op c) = is_stop op

abbrev pub is_stop_call : VolumeCall → Bool
is_stop_call (Pick c) = false
is_stop_call (Step call) = is_stop_step call

abbrev pub is_failure_step : StepCall → Bool
is_failure_step (Swap c i) = false
is_failure_step (Fail card) = true
is_failure_step (Due j) = false
is_failure_step Tick = false
is_failure_step (At op c j) = false
is_failure_step (By op c) = false

abbrev pub is_failure_call : VolumeCall → Bool
is_failure_call (Pick c) = false
is_failure_call (Step call) = is_failure_step call

-- the calls on every stripe
abbrev pub is_of_each_call : VolumeCall → Bool
is_of_each_call call = is_failure_call call || is_stop_call call

-- the bytes that a call is given, those of a block or those for each stripe
abbrev pub value_fits_step : StepCall → ℕ → ℕ → ℕ → Bool
value_fits_step (Swap c i) block card len = eqb len block
value_fits_step (Fail j) block card len = eqb len card
value_fits_step (Due j) block card len = true
value_fits_step Tick block card len = true
value_fits_step (At op c j) block card len = true
value_fits_step (By op c) block card len = true

abbrev pub value_fits : VolumeCall → ℕ → ℕ → ℕ → Bool
value_fits (Pick c) block card len = true
value_fits (Step call) block card len = value_fits_step call block card len

abbrev pub stopping_of : VolumeCall → ℕ
stopping_of (Pick c) = c
stopping_of (Step call) = caller call

-- what a step is in stripe s: "a failure of one node in each stripe"
abbrev pub step_for : StepCall → ℕ → ℕ → StepCall
step_for (Swap c i) n s = Swap c i
step_for (Fail card) n s = Fail (node_for n s card)
step_for (Due j) n s = Due j
step_for Tick n s = Tick
step_for (At op c j) n s = At op c j
step_for (By op c) n s = By op c

-- ---- the volume's own tests

abbrev pub walk_fits : request.Request → ℕ → ℕ → ℕ → ℕ → ℕ → ℕ → Bool
walk_fits q nodes clients blocks spare differences value =
    let lengths = lengths_of q.volume in
    volume_within q.volume && (eqb nodes lengths.nodes && (eqb clients lengths.clients && (eqb blocks lengths.blocks
    && (eqb spare lengths.blocks && (eqb differences lengths.differences && value_fits q.call q.volume.z.b lengths.value value)))))

-- whether place i of a table of clients, m for each stripe, is that of client c
abbrev pub is_place_of : ℕ → ℕ → ℕ → Bool
is_place_of m c i = not (eqb m 0) && eqb (i % m + 1) c

-- what a stop tests of the records: every node's, and the client's in every stripe
abbrev pub node_passes : Sizes → NodeRecord → Bool
node_passes z node = node_within z (node_of node)

abbrev pub client_passes : Sizes → ℕ → ℕ × ClientRecord → Bool
client_passes z c p = not (is_place_of z.m c p.0) || (sizes_within z && client_within z (client_of p.1))

abbrev pub may_stop : request.Request → List NodeRecord → List ClientRecord → Bool
may_stop q nodes clients =
    list_all (node_passes q.volume.z) nodes && list_all (client_passes q.volume.z (stopping_of q.call)) (enumerate_from 0 clients)

-- 1 for the count, the sizes, the lengths and, before a stop, the records; then 2 for the stripe
abbrev pub tested : request.Request → List NodeRecord → List ClientRecord → ℕ → ℕ → ℕ → ℕ → Result (Unit {0}) Refusal
tested q nodes clients blocks spare differences value =
    cond (walk_fits q (length nodes) (length clients) blocks spare differences value)
    (cond (is_stop_call q.call && not (may_stop q nodes clients)) (Err OutOfLimits)
    (cond (not (is_of_each_call q.call) && leb q.volume.stripes q.stripe) (Err OutOfRange) (Ok tt)))
    (Err OutOfLimits)

-- ---- the call on one stripe

-- "a client's stop is a stop in each", a card's failure a failure in each
abbrev pub stripes_of : request.Request → ℕ
stripes_of q = q.volume.stripes

abbrev pub at_stripe : request.Request → ℕ → request.Request
at_stripe q s = record { volume = q.volume; stripe = s; call = q.call }

abbrev pub pick_request_of : request.Request → ℕ → PickRequest
pick_request_of q c = record { z = q.volume.z; c = c }

abbrev pub step_request_of : request.Request → StepCall → Request
step_request_of q call = record { z = q.volume.z; call = step_for call q.volume.z.n q.stripe }

-- "with B bytes given for each, in stripe order"
abbrev pub value_from : request.Request → ℕ → ℕ
value_from q len = cond (is_failure_call q.call) (part_from q.stripe q.volume.z.b len) 0

abbrev pub value_to : request.Request → ℕ → ℕ
value_to q len = cond (is_failure_call q.call) (part_to q.stripe q.volume.z.b len) len

-- ---- a read

abbrev pub sized_of : read.ReadRequest → ℕ → ℕ → sized.SizedRead
sized_of q blocks spare = record { volume = q.volume; stripe = q.stripe; i = q.i; blocks = blocks; spare = spare }

abbrev pub read_fits : sized.SizedRead → ℕ → ℕ → Bool
read_fits q nodes clients =
    let lengths = lengths_of q.volume in
    volume_within q.volume && (eqb nodes lengths.nodes && (eqb clients lengths.clients
    && (eqb q.blocks lengths.blocks && eqb q.spare lengths.blocks)))

-- 1 for the count, the sizes and the lengths, then 2 for the stripe
abbrev pub read_tested : sized.SizedRead → ℕ → ℕ → Result (Unit {0}) Refusal
read_tested q nodes clients =
    cond (read_fits q nodes clients) (cond (leb q.volume.stripes q.stripe) (Err OutOfRange) (Ok tt)) (Err OutOfLimits)

abbrev pub read_request_of : sized.SizedRead → SizedRead
read_request_of q =
    let each = table_blocks q.volume.z in
    record { z = q.volume.z; i = q.i; blocks = each; spare = each }

-- the block that an answer names, in the stripe's own part of each table
abbrev pub shown_of : sized.SizedRead → Answer → List ℕ → List ℕ → List ℕ
shown_of q answer blocks spare =
    let each = table_blocks q.volume.z in
    shown_part answer q.volume.z.b q.i (part_in (part_of q.stripe each (length blocks)) blocks)
    (part_in (part_of q.stripe each (length spare)) spare)
