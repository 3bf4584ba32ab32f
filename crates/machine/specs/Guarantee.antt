-- Demand 3, "the guarantee on rebuilds": one claim about the whole list of calls. Quotes are demand 3's and C-15's where
-- marked, else document 01's. Assumes nothing.
use Rattle.std.specs.Prelude.{true, false, List, [], ◌∷◌, ◌⊎◌, ◌≡◌, ℕ, ◌*◌, ◌≤◌, length, take, replicate}
use Rattle.blocks.specs.Blocks.{block, Bytes}
use Rattle.code.specs.Code.{Codeword}
use Rattle.records.specs.declared.Sizes.{Sizes}
use Rattle.records.specs.declared.Source.{Source}
use Rattle.records.specs.Sizes.{sizes_within}
use Rattle.machine.specs.Stripe.{Stripe, Answer, Shown, number, fresh}
use Rattle.machine.specs.Calls.{Call, Read, Pick, Swap, Fail, Due, Tick, At, By, step}
use Rattle.machine.specs.History.{Event, Written, accepted, sizes_at, finishes, given, swaps_at, reported_at, all_swaps_at, all_reported_at, failed_since}
use Rattle.machine.specs.History.{is_among, last_value}

-- what is found is the last value of a first part of these swaps (of none: what was there before), and that part holds every write reported.
-- "A first part of the swaps is those up to some point of the list: none, some or all": the first `part`
pub record PartOf (before : List ℕ) (swaps reported : List Written) (found : List ℕ) : Type 0 where
  pub part : ℕ
  pub value : found ≡ last_value before (take part swaps)
  pub done : (write : Written) → is_among write reported ≡ true → is_among write (take part swaps) ≡ true

-- demand 3: "each data block is the last value of some first part (per position) of the swaps accepted there since the previous finished rebuild;
-- that part holds every write there reported done since; if it is empty the block is what that rebuild gave, or zero"
abbrev pub FirstPart : Sizes → ℕ → List Event → List ℕ → Type 0
FirstPart z i past blocks = PartOf (block z.b i (given z past)) (swaps_at z i past) (reported_at z i past) (block z.b i blocks)

-- demand 3: "after each finished rebuild the n blocks are one codeword"; `past` is what came before the settle that finishes it
pub record RebuiltWell (z : Sizes) (past : List Event) (blocks : List ℕ) : Type 0 where
  pub codeword : Codeword z.k (sizes_at z past).n z.b blocks
  pub position : (i : ℕ) → 1 ≤ i → i ≤ z.k → FirstPart z i past blocks

-- demand 3: "every accepted swap is done"
abbrev pub AllDone : Sizes → List Event → Type 0
AllDone z past =
    (i : ℕ) → 1 ≤ i → i ≤ z.k → (write : Written) → is_among write (swaps_at z i past) ≡ true → is_among write (reported_at z i past) ≡ true

-- demand 3: "the blocks are the codeword of the last values swapped in"
pub record LastValues (z : Sizes) (past : List Event) (blocks : List ℕ) : Type 0 where
  pub codeword : Codeword z.k (sizes_at z past).n z.b blocks
  pub position : (i : ℕ) → 1 ≤ i → i ≤ z.k → block z.b i blocks ≡ last_value (block z.b i (given z past)) (swaps_at z i past)

-- a call with the sizes that it is handed, and the bytes of its value
pub record Request : Type 0 where
  pub sizes : Sizes
  pub call : Call

abbrev pub value_of : Call → List ℕ
value_of (Read i) = []
value_of (Pick c) = []
value_of (Swap c i value) = value
value_of (Fail j value) = value
value_of (Due j) = []
value_of Tick = []
value_of (At op c j) = []
value_of (By op c) = []

-- the stripe after a list of calls, and the history of them
pub record Run : Type 0 where
  pub stripe : Stripe
  pub past : List Event

-- "Each later one gets the records and three tables as the call before left them, refused or not"
unfoldable pub made : Request → Run → Run
made request run =
    let outcome = step request.sizes request.call run.stripe in
    let event : Event = record { call = request.call; answer = outcome.answer; blocks = outcome.after.blocks } in
    record { stripe = outcome.after; past = event ∷ run.past }

unfoldable pub play : List Request → Run → Run
play [] run = run
play (request ∷ requests) run = play requests (made request run)

-- "Sizes and t_d are any within the limits and the same at every call of a list but those refused with 1; arguments may be out of range."
pub record Allowed (z : Sizes) (request : Request) (run : Run) : Type 0 where
  pub sizes : (request.sizes ≡ sizes_at z run.past) ⊎ (number (step request.sizes request.call run.stripe).answer ≡ 1)
  pub bytes : Bytes (value_of request.call)

unfoldable pub AllAllowed : Sizes → List Request → Run → Type 0
AllAllowed z [] run = Unit {0}
AllAllowed z (request ∷ requests) run = Allowed z request run × AllAllowed z requests (made request run)

-- "The first call gets a fresh stripe, with any bytes in the spare and the differences."
abbrev pub start : Sizes → List ℕ → List ℕ → Run
start z spare differences = record { stripe = fresh z spare differences; past = [] }

-- what holds at a point of the list: if the last call finished a rebuild; and, demand 3, "Whenever since the last finished rebuild no node has failed
-- and every accepted swap is done"
pub record Holds (z : Sizes) (run : Run) : Type 0 where
  pub rebuilt : (e : Event) (past : List Event) → run.past ≡ e ∷ past → finishes z e past ≡ true → RebuiltWell z past run.stripe.blocks
  pub steady : failed_since z run.past ≡ false → AllDone z run.past → LastValues z run.past run.stripe.blocks

-- P holds at the end of every list of calls, and so, since each beginning of a list is a list, at every point of every list
abbrev pub EveryList : (Sizes → Run → Type 0) → Type 0
EveryList P =
    (z : Sizes) → sizes_within z ≡ true → (spare differences : List ℕ) → length spare ≡ z.n * z.b → length differences ≡ z.m * z.b →
    Bytes spare → Bytes differences → (calls : List Request) → AllAllowed z calls (start z spare differences) →
    P z (play calls (start z spare differences))

-- demand 3
abbrev pub Demand3 : Type 0
Demand3 = EveryList Holds

-- the same over the whole list, across rebuilds, which follows: a data block is the last value of some first part of all swaps ever accepted there
-- (zero if it is empty), and that part holds every write there that was ever reported done
abbrev pub PartOfAll : Sizes → ℕ → List Event → List ℕ → Type 0
PartOfAll z i past found = PartOf (replicate z.b 0) (all_swaps_at i past) (all_reported_at i past) found

-- after each finished rebuild
abbrev pub KeepsDone : Sizes → Run → Type 0
KeepsDone z run =
    (e : Event) (past : List Event) → run.past ≡ e ∷ past → finishes z e past ≡ true →
    (i : ℕ) → 1 ≤ i → i ≤ z.k → PartOfAll z i past (block z.b i run.stripe.blocks)

-- C-15: what an accepted read is answered: a block of which P holds, and where it lies
pub record Shows (P : List ℕ → Type 0) (answer : Answer) : Type 0 where
  pub source : Source
  pub shown : List ℕ
  pub is : answer ≡ Shown source shown
  pub holds : P shown

-- of the read that a list ends with, if it is accepted; `past` is what came before it
abbrev pub EachRead : (Sizes → ℕ → List Event → List ℕ → Type 0) → Sizes → Run → Type 0
EachRead P z run =
    (e : Event) (past : List Event) → run.past ≡ e ∷ past → (i : ℕ) → e.call ≡ Read i → accepted e ≡ true → Shows (P z i past) e.answer

-- C-15: "the spare's block so shown is what a first part of the swaps accepted there before the read gave (zero if none), with every write done there
-- before in it"; and so is the live block that a read shows. Over the whole list: a write done, a rebuild and a new pick, and a read shows that write
-- with no swap since the rebuild
abbrev pub ReadsPart : Sizes → Run → Type 0
ReadsPart = EachRead PartOfAll
