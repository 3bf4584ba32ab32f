-- Demand 3 of the entry points of volumeshelf: a caller keeps a volume in five tables and makes any list of calls of `call`, `read` and `read_answer` on them.
-- A list begins with what `fresh` leaves. Assumes nothing.
use Rattle.std.specs.Prelude.{List, [], ◌≡◌, ℕ, length}
use Rattle.machine.specs.Stripe as Machine
use Rattle.machine.specs.Calls as Calls
use Rattle.machine.specs.Guarantee.{Holds, KeepsDone, ReadsPart}
use Rattle.records.specs.declared.Refusal.TheVariants.{OutOfLimits}
use Rattle.records.specs.declared.Sizes.{Sizes}
use Rattle.calls.specs.declared.Answer.{Answer}
use Rattle.calls.specs.Answers.{answer_of}
use Rattle.volume.specs.Volume.{Volume, VolumeCall, on}
use Rattle.routing.specs.declared.ReadRequest.{ReadRequest}
use Rattle.routing.specs.declared.Request.{Request}
use Rattle.routing.specs.declared.SizedRead.{SizedRead}
use Rattle.routing.specs.Walks.{shown_of}
use Rattle.volumeshelf.specs.Volumes.{AnswersVolume, CallsVolume, ReadsVolume, call_of, volume_in}
use Rattle.runs.specs.Entered.{Tables}
use Rattle.runs.specs.Volume.{EveryVolumeRun, OthersKept, TakenOut}

-- the tables of all stripes, "each as one table for the whole volume"
abbrev pub volume_of : Sizes → ℕ → Tables → Volume
volume_of z stripes t = volume_in (record { stripes = stripes; z = z }) t.nodes t.clients t.blocks t.spare t.differences

-- one call did what its entry point ensures; a read leaves all tables
pub data EntersVolume (t : Tables) : Sizes → ℕ → VolumeCall → Machine.Answer → Tables → Type 0 where
  entered : (q : Request) (value : List ℕ) (answer : Answer) (t' : Tables)
      → CallsVolume t.nodes t.clients t.blocks t.spare t.differences value q answer
      t'.nodes t'.clients t'.blocks t'.spare t'.differences
      → EntersVolume t q.volume.z q.volume.stripes (on q.stripe (call_of q.call value)) (answer_of answer []) t'
  shown : (q : ReadRequest) (answer : Answer) (part : List ℕ) → ReadsVolume t.nodes t.clients t.blocks t.spare q answer part
      → EntersVolume t q.volume.z q.volume.stripes (on q.stripe (Calls.Read q.i)) (answer_of answer part) t
  -- a read's answer, by the lengths of the tables, and then the part that it names
  told : (q : SizedRead) (answer : Answer) → AnswersVolume t.nodes t.clients q answer → q.blocks ≡ length t.blocks → q.spare ≡ length t.spare
      → EntersVolume t q.volume.z q.volume.stripes (on q.stripe (Calls.Read q.i)) (answer_of answer (shown_of q answer t.blocks t.spare)) t

-- a call is lent the tables that are kept; or it is lent others, "length outside the limits", a part of them say, which it leaves as they are
pub data EntersVolumeOne (t : Tables) : Sizes → ℕ → VolumeCall → Machine.Answer → Tables → Type 0 where
  kept : (z : Sizes) (stripes : ℕ) (q : VolumeCall) (answer : Machine.Answer) (t' : Tables) → EntersVolume t z stripes q answer t'
      → EntersVolumeOne t z stripes q answer t'
  others : (z : Sizes) (stripes : ℕ) (q : VolumeCall) (u : Tables) → EntersVolume u z stripes q (Machine.Refused OutOfLimits) u
      → EntersVolumeOne t z stripes q (Machine.Refused OutOfLimits) t

-- the calls of a stripe, taken out, are a list of its machine; calls on other stripes leave it; demand 3, and what follows from it across rebuilds
abbrev pub TakenOutEntered : Type 0
TakenOutEntered = TakenOut volume_of EntersVolumeOne

abbrev pub OthersKeptEntered : Type 0
OthersKeptEntered = OthersKept volume_of EntersVolumeOne

abbrev pub Demand3VolumeEntered : Type 0
Demand3VolumeEntered = EveryVolumeRun volume_of EntersVolumeOne Holds

abbrev pub KeepsDoneVolumeEntered : Type 0
KeepsDoneVolumeEntered = EveryVolumeRun volume_of EntersVolumeOne KeepsDone

-- C-15: what the reads show
abbrev pub ReadsPartVolumeEntered : Type 0
ReadsPartVolumeEntered = EveryVolumeRun volume_of EntersVolumeOne ReadsPart
