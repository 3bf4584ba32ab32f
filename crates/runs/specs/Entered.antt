-- Demand 3 of the entry points of shelf: a caller keeps five tables and makes any list of calls of `step`, `pick`, `read` and `read_answer` on them.
-- Assumes nothing.
use Rattle.std.specs.Prelude.{List, [], ◌≡◌, ℕ, length}
use Rattle.machine.specs.Stripe as Machine
use Rattle.machine.specs.Calls as Calls
use Rattle.machine.specs.Guarantee.{Holds, KeepsDone, ReadsPart}
use Rattle.records.specs.declared.ClientRecord.{ClientRecord}
use Rattle.records.specs.declared.NodeRecord.{NodeRecord}
use Rattle.records.specs.declared.Refusal.TheVariants.{OutOfLimits}
use Rattle.records.specs.declared.Sizes.{Sizes}
use Rattle.calls.specs.declared.Answer.{Answer}
use Rattle.calls.specs.Answers.{answer_of, shown_part}
use Rattle.calls.specs.Calls.{step_of}
use Rattle.shelf.specs.Shelf.{StepsLent, PicksLent, ReadsLent}
use Rattle.taking.specs.declared.PickRequest.{PickRequest}
use Rattle.taking.specs.declared.ReadRequest.{ReadRequest}
use Rattle.taking.specs.declared.Request.{Request}
use Rattle.taking.specs.declared.SizedRead.{SizedRead}
use Rattle.taking.specs.Lent.{stripe_in}
use Rattle.taking.specs.Reads.{AnswersLent}
use Rattle.runs.specs.Runs.{EveryRun}

-- "the n node records lent as one table", the m client records as another, and the three tables of bytes
pub record Tables : Type 0 where
  pub nodes : List NodeRecord
  pub clients : List ClientRecord
  pub blocks : List ℕ
  pub spare : List ℕ
  pub differences : List ℕ

abbrev pub tables_of : Sizes → Tables → Machine.Stripe
tables_of z t = stripe_in t.nodes t.clients t.blocks t.spare t.differences

-- one call did what its entry point ensures. What it is not lent for writing stays: for a read all tables, for a pick the blocks and the differences
pub data Enters (t : Tables) : Sizes → Calls.Call → Machine.Answer → Tables → Type 0 where
  stepped : (q : Request) (value : List ℕ) (answer : Answer) (t' : Tables)
      → StepsLent t.nodes t.clients t.blocks t.spare t.differences value q answer
      t'.nodes t'.clients t'.blocks t'.spare t'.differences
      → Enters t q.z (step_of q.call value) (answer_of answer []) t'
  picked : (q : PickRequest) (answer : Answer) (nodes : List NodeRecord) (clients : List ClientRecord) (spare : List ℕ)
      → PicksLent t.nodes t.clients t.spare t.blocks q answer nodes clients spare
      → Enters t q.z (Calls.Pick q.c) (answer_of answer [])
      (record { nodes = nodes; clients = clients; blocks = t.blocks; spare = spare; differences = t.differences })
  shown : (q : ReadRequest) (answer : Answer) (part : List ℕ) → ReadsLent t.nodes t.clients t.blocks t.spare q answer part
      → Enters t q.z (Calls.Read q.i) (answer_of answer part) t
  -- a read's answer, by the lengths of the tables, and then the part that it names
  told : (q : SizedRead) (answer : Answer) → AnswersLent t.nodes t.clients q answer → q.blocks ≡ length t.blocks → q.spare ≡ length t.spare
      → Enters t q.z (Calls.Read q.i) (answer_of answer (shown_part answer q.z.b q.i t.blocks t.spare)) t

-- a call is lent the tables that are kept; or it is lent others, "length outside the limits", a part of them say, which it leaves as they are
pub data EntersOne (t : Tables) : Sizes → Calls.Call → Machine.Answer → Tables → Type 0 where
  kept : (z : Sizes) (call : Calls.Call) (answer : Machine.Answer) (t' : Tables) → Enters t z call answer t' → EntersOne t z call answer t'
  others : (z : Sizes) (call : Calls.Call) (u : Tables) → Enters u z call (Machine.Refused OutOfLimits) u
      → EntersOne t z call (Machine.Refused OutOfLimits) t

-- demand 3, and what follows from it across rebuilds
abbrev pub Demand3Entered : Type 0
Demand3Entered = EveryRun tables_of EntersOne Holds

abbrev pub KeepsDoneEntered : Type 0
KeepsDoneEntered = EveryRun tables_of EntersOne KeepsDone

-- C-15: what the reads show
abbrev pub ReadsPartEntered : Type 0
ReadsPartEntered = EveryRun tables_of EntersOne ReadsPart
