-- Change request C-11: lists of calls of a volume, the calls of one stripe taken out of them, and what holds of these. The code keeps a volume in some
-- form S, which is seen as the machine's; `Makes v y count q answer v'` is what the contract of one call says: made on v with the sizes y and so many
-- stripes it was answered so and left v'. Quotes are C-11's but where marked. Assumes nothing.
use Rattle.std.specs.Prelude.{true, false, cond, not, List, [], ◌∷◌, map, ◌⊎◌, ◌≡◌, ℕ, suc, ◌≤◌, ◌<◌, eqb, length}
use Rattle.basics.specs.Lists.{element_at}
use Rattle.blocks.specs.Blocks.{Bytes}
use Rattle.machine.specs.Calls.{Call, step}
use Rattle.machine.specs.Guarantee.{Holds, KeepsDone, ReadsPart, value_of}
use Rattle.machine.specs.Guarantee as Machine
use Rattle.machine.specs.History.{Event}
use Rattle.machine.specs.Stripe.{Stripe, Answer, Outcome, answered, guard, number}
use Rattle.records.specs.declared.Refusal.TheVariants.{OutOfLimits}
use Rattle.records.specs.declared.Sizes.{Sizes}
use Rattle.records.specs.Sizes.{sizes_within}
use Rattle.runs.specs.Runs.{Begun, Run}
use Rattle.volume.specs.Volume.{Volume, VolumeCall, call_in, reaches, stripe_at, stripe_limit, volume_step}

-- ---- histories

-- a call that was made, its answer, and the blocks of each stripe as it left them
pub record VolumeEvent : Type 0 where
  pub call : VolumeCall
  pub answer : Answer
  pub blocks : List (List ℕ)

abbrev pub blocks_of : Volume → List (List ℕ)
blocks_of v = map (λ x. x.blocks) v.stripes

-- "the calls of one stripe, taken out of the volume's list": those that reach it, with their answers and its blocks, a stop and a card's failure among
-- them. The others, also those of a stripe that is not there, are no calls of it
abbrev pub event_in : Sizes → ℕ → VolumeEvent → Event
event_in z s e = record { call = call_in z s e.call.call; answer = e.answer; blocks = element_at [] e.blocks (suc s) }

unfoldable pub past_of : Sizes → ℕ → List VolumeEvent → List Event
past_of z s [] = []
past_of z s (e ∷ past) = cond (reaches s e.call) (event_in z s e ∷ past_of z s past) (past_of z s past)

-- ---- lists of calls

-- "over up to 1,024 stripes of equal sizes and t_d"; document 01: "The first call gets a fresh stripe", and so each stripe is
pub record VolumeBegun (z : Sizes) (stripes : ℕ) (v : Volume) : Type 0 where
  pub count : length v.stripes ≡ stripes
  pub least : 1 ≤ stripes
  pub most : stripes ≤ stripe_limit
  pub fresh : (s : ℕ) → s < stripes → Begun z (stripe_at v s)

-- document 01: "Sizes and t_d are any within the limits and the same at every call of a list but those refused with 1; arguments may be out of range";
-- so is the number of stripes. A value is bytes, as the code's type says
pub record VolumePermitted (z y : Sizes) (stripes count : ℕ) (q : VolumeCall) (answer : Answer) : Type 0 where
  pub sizes : ((y ≡ z) × (count ≡ stripes)) ⊎ (number answer ≡ 1)
  pub bytes : Bytes (value_of q.call)

-- document 01: "Each later one gets the records and three tables as the call before left them, refused or not": a list of calls leaves v and has this
-- history, the latest call first
pub data VolumeRun {S : Type 0} (seen : Sizes → ℕ → S → Volume) (Makes : S → Sizes → ℕ → VolumeCall → Answer → S → Type 0) (z : Sizes) (stripes : ℕ) :
    S → List VolumeEvent → Type 0 where
  begun : {v : S} → VolumeBegun z stripes (seen z stripes v) → VolumeRun seen Makes z stripes v []
  called : {v v' : S} {past : List VolumeEvent} {y : Sizes} {count : ℕ} {q : VolumeCall} {answer : Answer} → VolumeRun seen Makes z stripes v past
      → VolumePermitted z y stripes count q answer → Makes v y count q answer v'
      → VolumeRun seen Makes z stripes v' (record { call = q; answer = answer; blocks = blocks_of (seen z stripes v') } ∷ past)

-- ---- what is said of them

-- one call of a stripe's machine
abbrev pub MachineMakes : Stripe → Sizes → Call → Answer → Stripe → Type 0
MachineMakes x y call answer x' = answered answer x' ≡ step y call x

module _ {S : Type 0} (seen : Sizes → ℕ → S → Volume) (Makes : S → Sizes → ℕ → VolumeCall → Answer → S → Type 0) where
  -- "the calls of one stripe, taken out of the volume's list", are a list of calls of the stripe's machine
  abbrev pub TakenOut : Type 0
  TakenOut =
      (z : Sizes) (stripes : ℕ) (v : S) (past : List VolumeEvent) → VolumeRun seen Makes z stripes v past → (s : ℕ) → s < stripes
      → Run (λ z x. x) MachineMakes z (stripe_at (seen z stripes v) s) (past_of z s past)

  -- "calls on other stripes change none of its blocks": nor anything else of it, at every point of every list
  abbrev pub OthersKept : Type 0
  OthersKept =
      (z : Sizes) (stripes : ℕ) (v : S) (past : List VolumeEvent) → VolumeRun seen Makes z stripes v past →
      (y : Sizes) (count : ℕ) (q : VolumeCall) (answer : Answer) (v' : S) → VolumePermitted z y stripes count q answer → Makes v y count q answer v' →
      (s : ℕ) → reaches s q ≡ false → stripe_at (seen z stripes v') s ≡ stripe_at (seen z stripes v) s

  -- "the calls of one stripe, taken out of the volume's list, obey it": P holds of every stripe at every point of every list of calls of the code
  abbrev pub EveryVolumeRun : (Sizes → Machine.Run → Type 0) → Type 0
  EveryVolumeRun P =
      (z : Sizes) → sizes_within z ≡ true → (stripes : ℕ) (v : S) (past : List VolumeEvent) → VolumeRun seen Makes z stripes v past →
      (s : ℕ) → s < stripes → P z (record { stripe = stripe_at (seen z stripes v) s; past = past_of z s past })

-- ---- the machine's own lists

-- a call that is handed another number of stripes than the volume's is answered 1
abbrev pub volume_step_of : Sizes → ℕ → VolumeCall → Volume → Outcome Volume
volume_step_of y count q v = guard (not (eqb count (length v.stripes))) OutOfLimits v (volume_step y q v)

abbrev pub VolumeMakes : Volume → Sizes → ℕ → VolumeCall → Answer → Volume → Type 0
VolumeMakes v y count q answer v' = answered answer v' ≡ volume_step_of y count q v

-- "The guarantee on rebuilds is then wanted for the volume": demand 3, and what follows from it across rebuilds
abbrev pub Demand3Volume : Type 0
Demand3Volume = EveryVolumeRun (λ z stripes v. v) VolumeMakes Holds

abbrev pub KeepsDoneVolume : Type 0
KeepsDoneVolume = EveryVolumeRun (λ z stripes v. v) VolumeMakes KeepsDone

-- C-15: what the reads show
abbrev pub ReadsPartVolume : Type 0
ReadsPartVolume = EveryVolumeRun (λ z stripes v. v) VolumeMakes ReadsPart
