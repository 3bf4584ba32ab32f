-- Document 01, "Due test and runner": the program shelfrun, from its input as a list of bytes to its output. Assumes nothing.
use Rattle.std.specs.Prelude.{Option as Known, None, Bool, true, false, cond, List, [], ◌∷◌, ◌++◌, ℕ, suc, eqb, replicate}
use Rattle.std.proofs.Math.Option.{Option, none, some}
use Rattle.records.specs.declared.Sizes.{Sizes}
use Rattle.records.specs.declared.Refusal.TheVariants.{OutOfLimits}
use Rattle.machine.specs.Stripe.{Stripe, Outcome, Answer, fresh, number, refused}
use Rattle.machine.specs.Calls.{Call, step}
use Rattle.script.specs.Lines.{shelf_call, ended, event_of, printed, shown}
use Rattle.script.specs.declared.writer.Event.{Event}

-- "with k=2, n=4, B=1, t_d=1, m=2"
abbrev pub sizes : Sizes
sizes = record { k = 2; n = 4; b = 1; failures = 1; m = 2 }

-- what a line is answered and leaves. "1: .. unreadable program line", "unchanged"
abbrev pub outcome : Option Call → Stripe → Outcome Stripe
outcome none s = refused OutOfLimits s
outcome (some x) s = step sizes x s

-- "an event or "-""
abbrev pub event_in : Option Call → Answer → Known Event
event_in none a = None
event_in (some x) a = event_of x a

-- "and the byte read or "-"": no other answer shows one
abbrev pub read_in : Option Call → Answer → List ℕ
read_in none a = 45 ∷ []
read_in (some x) a = shown a

-- "Each input line, readable or not, gives one output line: its number from 1, an event or "-", the answer number .., and the byte read or "-""
abbrev pub output : ℕ → Option Call → Answer → List ℕ
output n x a = printed n (event_in x a) (number a) (read_in x a)

---- the whole input

-- how many lines were answered, the bytes of the line that has begun, and the stripe
pub record State : Type 0 where
  pub lines : ℕ
  pub line : List ℕ
  pub stripe : Stripe

-- the outcome of the line that has begun, its output, and what its end leaves
abbrev pub line_outcome : State → Outcome Stripe
line_outcome x = outcome (shelf_call x.line) x.stripe

abbrev pub line_output : State → List ℕ
line_output x = output (suc x.lines) (shelf_call x.line) (line_outcome x).answer

abbrev pub line_left : State → State
line_left x = record { lines = suc x.lines; line = []; stripe = (line_outcome x).after }

-- a byte of a line that is not its end
abbrev pub line_grown : State → ℕ → State
line_grown x byte = record { lines = x.lines; line = x.line ++ byte ∷ []; stripe = x.stripe }

-- LF, 10, ends a line
abbrev pub byte_output : State → ℕ → List ℕ
byte_output x byte = cond (eqb byte 10) (line_output x) []

abbrev pub byte_left : State → ℕ → State
byte_left x byte = cond (eqb byte 10) (line_left x) (line_grown x byte)

unfoldable pub output_of : State → List ℕ → List ℕ
output_of x [] = []
output_of x (byte ∷ input) = byte_output x byte ++ output_of (byte_left x byte) input

unfoldable pub left : State → List ℕ → State
left x [] = x
left x (byte ∷ input) = left (byte_left x byte) input

-- at the end of the input: a last line may lack its end, and no byte is no line
abbrev pub is_begun : List ℕ → Bool
is_begun [] = false
is_begun (byte ∷ line) = true

abbrev pub last_output : State → List ℕ
last_output x = cond (is_begun x.line) (line_output x) []

-- what shelfrun prints
abbrev pub start : State
start = record { lines = 0; line = []; stripe = fresh sizes (replicate 4 0) (replicate 2 0) }

unfoldable pub shelfrun : List ℕ → List ℕ
shelfrun input = output_of start input ++ last_output (left start input)

-- "Input `S 1 1 01`, `A 1 3`, `A 1 3`, `R 1` prints exactly": the four lines, in ASCII
abbrev pub example_input : List ℕ
example_input =
    ended (83 ∷ 32 ∷ 49 ∷ 32 ∷ 49 ∷ 32 ∷ 48 ∷ 49 ∷ [])
    ++ (ended (65 ∷ 32 ∷ 49 ∷ 32 ∷ 51 ∷ []) ++ (ended (65 ∷ 32 ∷ 49 ∷ 32 ∷ 51 ∷ []) ++ ended (82 ∷ 32 ∷ 49 ∷ [])))

-- `1 swapped 0 -`, `2 added 0 -`, `3 - 3 -`, `4 - 0 01`: that they are is shown in proofs/Example
abbrev pub example_output : List ℕ
example_output =
    ended (49 ∷ 32 ∷ 115 ∷ 119 ∷ 97 ∷ 112 ∷ 112 ∷ 101 ∷ 100 ∷ 32 ∷ 48 ∷ 32 ∷ 45 ∷ [])
    ++ (ended (50 ∷ 32 ∷ 97 ∷ 100 ∷ 100 ∷ 101 ∷ 100 ∷ 32 ∷ 48 ∷ 32 ∷ 45 ∷ [])
    ++ (ended (51 ∷ 32 ∷ 45 ∷ 32 ∷ 51 ∷ 32 ∷ 45 ∷ []) ++ ended (52 ∷ 32 ∷ 45 ∷ 32 ∷ 48 ∷ 32 ∷ 48 ∷ 49 ∷ [])))
