-- Lists of calls of the code, and what holds at every point of them. The code keeps a stripe in some form S, which is seen as the machine's; `Makes s y call
-- answer s'` is what the contract of one call says: made on s with the sizes y it was answered so and left s'. Quotes are document 01's. Assumes nothing.
use Rattle.std.specs.Prelude.{true, List, [], ◌∷◌, ◌⊎◌, ◌≡◌, ◌*◌, length}
use Rattle.blocks.specs.Blocks.{Bytes}
use Rattle.machine.specs.Stripe.{Stripe, Answer, number, fresh}
use Rattle.machine.specs.Calls.{Call}
use Rattle.machine.specs.History.{Event}
use Rattle.machine.specs.Guarantee.{value_of}
use Rattle.machine.specs.Guarantee as Machine
use Rattle.records.specs.declared.Sizes.{Sizes}
use Rattle.records.specs.Sizes.{sizes_within}

-- "The first call gets a fresh stripe, with any bytes in the spare and the differences"
pub record Begun (z : Sizes) (s : Stripe) : Type 0 where
  pub is_fresh : s ≡ fresh z s.spare s.differences
  pub spare : length s.spare ≡ z.n * z.b
  pub differences : length s.differences ≡ z.m * z.b
  pub spare_bytes : Bytes s.spare
  pub differences_bytes : Bytes s.differences

-- "Sizes and t_d are any within the limits and the same at every call of a list but those refused with 1; arguments may be out of range": a buffer or
-- a table of a wrong length is among them. A value is bytes, as the code's type says
pub record Permitted (z y : Sizes) (call : Call) (answer : Answer) : Type 0 where
  pub sizes : (y ≡ z) ⊎ (number answer ≡ 1)
  pub bytes : Bytes (value_of call)

-- "Each later one gets the records and three tables as the call before left them, refused or not": a list of calls leaves s and has this history, the
-- latest call first. "read off the calls and their answers only": an event is a call, its answer, and the blocks as it left them
pub data Run {S : Type 0} (seen : Sizes → S → Stripe) (Makes : S → Sizes → Call → Answer → S → Type 0) (z : Sizes) : S → List Event → Type 0 where
  begun : {s : S} → Begun z (seen z s) → Run seen Makes z s []
  called : {s s' : S} {past : List Event} {y : Sizes} {call : Call} {answer : Answer} → Run seen Makes z s past
      → Permitted z y call answer → Makes s y call answer s'
      → Run seen Makes z s' (record { call = call; answer = answer; blocks = (seen z s').blocks } ∷ past)

-- P holds at every point of every list of calls of the code: the history is of these calls and these answers, the blocks are these tables'
abbrev pub EveryRun : {S : Type 0} → (Sizes → S → Stripe) → (S → Sizes → Call → Answer → S → Type 0) → (Sizes → Machine.Run → Type 0) → Type 0
EveryRun {S} seen Makes P =
    (z : Sizes) → sizes_within z ≡ true → (s : S) (past : List Event) → Run seen Makes z s past → P z (record { stripe = seen z s; past = past })
