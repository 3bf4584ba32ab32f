-- What the functions of shelfrun say of a State: how it is kept by value, and what lines and bytes print and leave. Assumes nothing.
use Rattle.std.specs.Prelude.{Bool, ◌≡◌, List, [], ◌∷◌, ℕ, ◌-◌, ◌^◌, ◌<◌, length, Option as Known, None, Some, IfSome}
use Rattle.std.specs.Io.KnownBytes.{Appends, Consumes, IsAtEnd}
use Rattle.std.proofs.Math.Option.{Option, some}
use Rattle.machine.specs.Stripe as Machine
use Rattle.machine.specs.Calls.{Call}
use Rattle.script.specs.Lines.{shown_text}
use Rattle.script.specs.Reading.{HasRead}
use Rattle.script.specs.Writing.{Put}
use Rattle.script.specs.declared.reader.LineReader.{LineReader}
use Rattle.script.specs.declared.writer.Event.{Event}
use Rattle.step.specs.View.{stripe_of}
use Rattle.shelfrun.specs.declared.feeding.Shelf.{Shelf}
use Rattle.shelfrun.specs.Shelfrun.{State, start, sizes, outcome, output, output_of, left, event_in, read_in, is_begun, shelfrun}

-- what is shown of a block of one byte, or of none
abbrev pub byte_in : List ℕ → Known ℕ
byte_in [] = None
byte_in (byte ∷ bytes) = Some byte

-- the event of a call and its answer, and the byte shown
pub record Says (x : Call) (a : Machine.Answer) (event : Known Event) (byte : Known ℕ) : Type 0 where
  pub event-of : event ≡ event_in (some x) a
  pub byte_read : shown_text byte ≡ read_in (some x) a

-- a line with the call x, the nth: what it prints at the start of a buffer, and what it leaves
pub record Answers (n : ℕ) (x : Option Call) (s : Machine.Stripe) (before after : List ℕ) (end : ℕ) (s' : Machine.Stripe) : Type 0 where
  pub text : Put before 0 (output n x (outcome x s).answer) after end
  pub left : s' ≡ (outcome x s).after

---- a State by value

-- the reader and its buffer hold the line so far
pub record Is (x : State) (lines : ℕ) (reader : LineReader) (value : List ℕ) (s : Machine.Stripe) : Type 0 where
  pub count : lines ≡ x.lines
  pub line : HasRead x.line reader value
  pub stripe : s ≡ x.stripe

-- and whether a line has begun is known
pub record Kept (lines : ℕ) (begun : Bool) (reader : LineReader) (value : List ℕ) (s : Machine.Stripe) (x : State) : Type 0 where
  pub begins : begun ≡ is_begun x.line
  pub is : Is x lines reader value s

abbrev pub Keeps : Shelf → List ℕ → List ℕ → List ℕ → State → Type 0
Keeps y blocks spare differences = Kept y.lines y.begun y.reader (y.value ∷ []) (stripe_of sizes y.stripe blocks spare differences)

-- bytes of the input, from whatever State is kept before them: what they print, and the State that is kept after them
pub record Feeds (before : State → Type 0) (input text : List ℕ) (after : State → Type 0) : Type 0 where
  pub prints : (x : State) → before x → text ≡ output_of x input
  pub leaves : (x : State) → before x → after (left x input)

-- the State that is kept is that after some input, from the start; and what the input prints
pub record Reached (kept : State → Type 0) : Type 0 where
  pub input : List ℕ
  pub text : List ℕ
  pub fed : Feeds (λ x. x ≡ start) input text kept

---- a reader's bytes and a writer's, as far as they are known

-- the same of the bytes that were read, and what they print was written
pub record Played (unread unread' written written' : Known (List ℕ)) (kept : State → Type 0) : Type 0 where
  pub reached : Reached kept
  pub read : Consumes unread unread' reached.input
  pub wrote : Appends written written' reached.text

-- no longer than what the program counts: it gives up after that many bytes
abbrev pub IsCounted : List ℕ → Type 0
IsCounted input = length input < 2 ^ 64 - 1026

-- all was read
abbrev pub Ended : Known (List ℕ) → Known (List ℕ) → Type 0
Ended unread unread' = IfSome unread (λ input. IsCounted input → IsAtEnd unread')

-- what was written is what shelfrun prints of all that was to be read
abbrev pub Prints : Known (List ℕ) → Known (List ℕ) → Known (List ℕ) → Type 0
Prints unread written written' = IfSome unread (λ input. IsCounted input → Appends written written' (shelfrun input))
