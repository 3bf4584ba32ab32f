-- Demand 3 of `step::play` and `step::read`, on a stripe by value and its tables. A list begins with `Stripe::fresh()` and blocks of zeros: what it
-- ensures, `Fresh`, says that they are seen as a fresh stripe. Assumes nothing.
use Rattle.std.specs.Prelude.{List, ℕ}
use Rattle.machine.specs.Stripe as Machine
use Rattle.machine.specs.Calls as Calls
use Rattle.machine.specs.Guarantee.{Holds, KeepsDone, ReadsPart}
use Rattle.records.specs.declared.Sizes.{Sizes}
use Rattle.calls.specs.declared.Answer.{Answer}
use Rattle.calls.specs.Answers.{answer_of}
use Rattle.calls.specs.declared.Call.{Call}
use Rattle.calls.specs.Calls.{call_of}
use Rattle.step.specs.View.{Stored, stored_of}
use Rattle.step.specs.Plays.{Plays, shown_by}
use Rattle.step.specs.Reads.{Reads}
use Rattle.runs.specs.Runs.{EveryRun}

-- the call was made with this value beside it, and did what `play` ensures; or it was a read, which did what `read` ensures
pub data PlaysOne (s : Stored) : Sizes → Calls.Call → Machine.Answer → Stored → Type 0 where
  played : {z : Sizes} {call : Call} {value : List ℕ} {answer : Answer} {s' : Stored} → Plays z call value s answer s'
      → PlaysOne s z (call_of call value) (answer_of answer (shown_by z call answer s'.blocks s'.spare)) s'
  shown : {z : Sizes} {i : ℕ} {answer : Answer} {part : List ℕ} → Reads z i s.stripe s.blocks s.spare answer part
      → PlaysOne s z (Calls.Read i) (answer_of answer part) s

-- demand 3, and what follows from it across rebuilds
abbrev pub Demand3Played : Type 0
Demand3Played = EveryRun stored_of PlaysOne Holds

abbrev pub KeepsDonePlayed : Type 0
KeepsDonePlayed = EveryRun stored_of PlaysOne KeepsDone

-- C-15: what the reads show
abbrev pub ReadsPartPlayed : Type 0
ReadsPartPlayed = EveryRun stored_of PlaysOne ReadsPart
