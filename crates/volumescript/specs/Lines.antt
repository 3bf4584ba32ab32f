-- Change request C-11: the lines of a script for a volume, as lists of bytes in ASCII, and the call of the volume that each stands for. Fields, numbers
-- and bytes are those of striperun's lines. Assumes nothing.
use Rattle.std.specs.Prelude.{Bool, false, cond, ◌&&◌, not, List, [], ◌∷◌, ℕ, eqb, ltb, length}
use Rattle.std.proofs.Math.Option.{Option, none, some, map}
use Rattle.machine.specs.Calls.{Call}
use Rattle.machine.specs.Stripe.{Accepted, Outcome, answered, guard, refused}
use Rattle.records.specs.declared.Refusal.TheVariants.{OutOfLimits, OutOfRange}
use Rattle.records.specs.declared.Sizes.{Sizes}
use Rattle.script.specs.Lines.{bytes_of, call_by, fields, line_of, numeral}
use Rattle.volume.specs.Volume.{Volume, VolumeCall, is_of_each, on, read_block, swap_block, volume_step}

-- a call of one stripe, a call of every stripe, a read and a swap of a block, a stripe that is shown
pub data Line : Type 0 where
  One : ℕ → Call → Line
  Each : Call → Line
  ReadBlock : ℕ → Line
  SwapBlock : ℕ → ℕ → List ℕ → Line
  Show : ℕ → Line

-- "s X ..": the call X .. of striperun on stripe s. The calls of every stripe, C and N, are unreadable there
abbrev pub of_one : ℕ → Option Call → Option Line
of_one s none = none
of_one s (some call) = cond (is_of_each call) none (some (One s call))

-- "CC c", "NC card HEX": as C c and N j HEX are in striperun
abbrev pub of_each : Option Call → Option Line
of_each call = map Each call

-- "RB b", "? s"
abbrev pub of_number : (ℕ → Line) → List (List ℕ) → Option Line
of_number line [] = none
of_number line (a ∷ []) = map line (numeral a)
of_number line (a ∷ b ∷ more) = none

-- "SB c b HEX"
abbrev pub swapping : Option ℕ → Option ℕ → Option (List ℕ) → Option Line
swapping none b value = none
swapping (some c) none value = none
swapping (some c) (some b) none = none
swapping (some c) (some b) (some value) = some (SwapBlock c b value)

abbrev pub of_swap : List (List ℕ) → Option Line
of_swap [] = none
of_swap (c ∷ []) = none
of_swap (c ∷ b ∷ []) = none
of_swap (c ∷ b ∷ v ∷ []) = swapping (numeral c) (numeral b) (bytes_of v)
of_swap (c ∷ b ∷ v ∷ w ∷ more) = none

abbrev pub is_mark : ℕ → List ℕ → Bool
is_mark x [] = false
is_mark x (a ∷ []) = eqb a x
is_mark x (a ∷ b ∷ more) = false

abbrev pub is_word : ℕ → ℕ → List ℕ → Bool
is_word x y [] = false
is_word x y (a ∷ []) = false
is_word x y (a ∷ b ∷ []) = eqb a x && eqb b y
is_word x y (a ∷ b ∷ c ∷ more) = false

-- RB, SB, CC, NC, ?
unfoldable pub by_word : List ℕ → List (List ℕ) → Option Line
by_word word more =
    cond (is_word 82 66 word) (of_number ReadBlock more)
    (cond (is_word 83 66 word) (of_swap more)
    (cond (is_word 67 67 word) (of_each (call_by 67 more))
    (cond (is_word 78 67 word) (of_each (call_by 78 more))
    (cond (is_mark 63 word) (of_number Show more) none))))

abbrev pub by_first : Option ℕ → List ℕ → List (List ℕ) → Option Line
by_first none word more = by_word word more
by_first (some s) word more = of_one s (line_of more)

-- the line of these fields; none if it is unreadable. A value may have any number of bytes: the call itself refuses a wrong one with 1
unfoldable pub line_in : List (List ℕ) → Option Line
line_in [] = none
line_in (word ∷ more) = by_first (numeral word) word more

abbrev pub volume_line : List ℕ → Option Line
volume_line line = line_in (fields line)

-- what it stands for in a volume of k data nodes a stripe: a call, or a stripe that is shown
pub data Meaning : Type 0 where
  Calls : VolumeCall → Meaning
  Shows : ℕ → Meaning

abbrev pub meaning : ℕ → Line → Meaning
meaning k (One s call) = Calls (on s call)
meaning k (Each call) = Calls (on 0 call)
meaning k (ReadBlock b) = Calls (read_block k b)
meaning k (SwapBlock c b value) = Calls (swap_block k c b value)
meaning k (Show s) = Shows s

-- how it is answered, and what it leaves: an unreadable line 1, a stripe that is shown 0, or 2 if there is none
abbrev pub meant_step : Sizes → Meaning → Volume → Outcome Volume
meant_step z (Calls q) v = volume_step z q v
meant_step z (Shows s) v = guard (not (ltb s (length v.stripes))) OutOfRange v (answered Accepted v)

abbrev pub line_step : Sizes → Option Line → Volume → Outcome Volume
line_step z none v = refused OutOfLimits v
line_step z (some line) v = meant_step z (meaning z.k line) v
