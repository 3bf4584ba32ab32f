-- Document 01, "Due test and runner": the lines of the programs, as lists of bytes in ASCII: what a line of input means, to striperun and to
-- shelfrun, and what a line of output says. Assumes nothing.
use Rattle.std.specs.Prelude.{None, Some, Option as Maybe, Bool, true, false, cond, ◌&&◌, List, [], ◌∷◌, ◌++◌, ℕ, zero, suc, ◌+◌, ◌-◌, ◌*◌, ◌/◌, ◌%◌, eqb, leb, ltb}
use Rattle.std.proofs.Math.Option.{Option, none, some}
use Rattle.machine.specs.Stripe as Stripe
use Rattle.machine.specs.Stripe.{Answer, Accepted, Added, Done, Rebuilt, Told, Refused, number}
use Rattle.machine.specs.Calls as Calls
use Rattle.machine.specs.Calls.{Call, Read, Pick, Swap, Fail, Due, Tick, At, By}
use Rattle.records.specs.declared.NodeCall.{NodeCall}
use Rattle.records.specs.declared.NodeCall.TheVariants.{Add, Check}
use Rattle.records.specs.declared.ClientCall.{ClientCall}
use Rattle.records.specs.declared.ClientCall.TheVariants.{Drop, Sweep, Stop, Lock, Weaken, Tighten, Write, Settle, Unlock, Quit}
use Rattle.script.specs.declared.writer.Event.{Event}
use Rattle.script.specs.declared.writer.Event.TheVariants as Events

-- a byte before the first part
abbrev pub onto : ℕ → List (List ℕ) → List (List ℕ)
onto x [] = []
onto x (p ∷ ps) = (x ∷ p) ∷ ps

-- the parts of a list between the bytes d: one more than there are of them
unfoldable pub parts : ℕ → List ℕ → List (List ℕ)
parts d [] = [] ∷ []
parts d (x ∷ xs) = cond (eqb x d) ([] ∷ parts d xs) (onto x (parts d xs))

-- "fields are one space apart"
abbrev pub fields : List ℕ → List (List ℕ)
fields line = parts 32 line

-- one or more decimal digits
abbrev pub is_digit : ℕ → Bool
is_digit x = leb 48 x && leb x 57

unfoldable pub digits_from : ℕ → List ℕ → Option ℕ
digits_from n [] = some n
digits_from n (x ∷ xs) = cond (is_digit x) (digits_from (n * 10 + (x - 48)) xs) none

unfoldable pub numeral : List ℕ → Option ℕ
numeral [] = none
numeral (x ∷ xs) = digits_from 0 (x ∷ xs)

-- "Bytes are two hexadecimal digits, capitals"
unfoldable pub hex_digit : ℕ → Option ℕ
hex_digit x = cond (is_digit x) (some (x - 48)) (cond (leb 65 x && leb x 70) (some (x - 55)) none)

abbrev pub both : Option ℕ → Option ℕ → Option (List ℕ) → Option (List ℕ)
both none y rest = none
both (some x) none rest = none
both (some x) (some y) none = none
both (some x) (some y) (some bytes) = some ((x * 16 + y) ∷ bytes)

unfoldable pub bytes_of : List ℕ → Option (List ℕ)
bytes_of [] = some []
bytes_of (x ∷ []) = none
bytes_of (x ∷ y ∷ l) = both (hex_digit x) (hex_digit y) (bytes_of l)

abbrev pub when : Bool → Call → Option Call → Option Call
when test x rest = cond test (some x) rest

-- "D c; G c (sweep); R i; L, P, O (weaken), I (tighten), W, T (settle), U, Q each with c; C c (stops)"; and Z j, the due test
abbrev pub with_one : ℕ → Option ℕ → Option Call
with_one letter none = none
with_one letter (some c) =
    when (eqb letter 68) (Calls.drop c)
    (when (eqb letter 71) (Calls.sweep c)
    (when (eqb letter 82) (Calls.read c)
    (when (eqb letter 76) (Calls.lock c)
    (when (eqb letter 80) (Calls.pick c)
    (when (eqb letter 79) (Calls.weaken c)
    (when (eqb letter 73) (Calls.tighten c)
    (when (eqb letter 87) (Calls.write c)
    (when (eqb letter 84) (Calls.settle c)
    (when (eqb letter 85) (Calls.unlock c)
    (when (eqb letter 81) (Calls.quit c)
    (when (eqb letter 67) (Calls.stop c)
    (when (eqb letter 90) (Calls.due c) none))))))))))))

-- "A c j; H c j (check)"
abbrev pub with_two : ℕ → Option ℕ → Option ℕ → Option Call
with_two letter none j = none
with_two letter (some c) none = none
with_two letter (some c) (some j) = when (eqb letter 65) (Calls.add c j) (when (eqb letter 72) (Calls.check c j) none)

-- "N j byte (fails)"
abbrev pub with_value : Option ℕ → Option (List ℕ) → Option Call
with_value none value = none
with_value (some j) none = none
with_value (some j) (some value) = some (Fail j value)

-- "S c i byte"
abbrev pub with_three : Option ℕ → Option ℕ → Option (List ℕ) → Option Call
with_three none i value = none
with_three (some c) none value = none
with_three (some c) (some i) none = none
with_three (some c) (some i) (some value) = some (Swap c i value)

-- C-12: K, a tick, has no field
abbrev pub with_none : ℕ → Option Call
with_none letter = when (eqb letter 75) Calls.tick none

unfoldable pub call_by : ℕ → List (List ℕ) → Option Call
call_by letter [] = with_none letter
call_by letter (a ∷ []) = with_one letter (numeral a)
call_by letter (a ∷ b ∷ []) = cond (eqb letter 78) (with_value (numeral a) (bytes_of b)) (with_two letter (numeral a) (numeral b))
call_by letter (a ∷ b ∷ v ∷ []) = cond (eqb letter 83) (with_three (numeral a) (numeral b) (bytes_of v)) none
call_by letter (a ∷ b ∷ v ∷ w ∷ more) = none

-- the call that a line of striperun stands for; none if it is unreadable. A value may have any number of bytes: the call itself refuses a wrong one
-- with 1
unfoldable pub line_of : List (List ℕ) → Option Call
line_of [] = none
line_of ([] ∷ more) = none
line_of ((letter ∷ []) ∷ more) = call_by letter more
line_of ((letter ∷ x ∷ xs) ∷ more) = none

abbrev pub call : List ℕ → Option Call
call line = line_of (fields line)

-- shelfrun has the sixteen letters that are quoted above: a line that only striperun knows is unreadable there
abbrev pub is_shelf_line : Call → Bool
is_shelf_line (Read i) = true
is_shelf_line (Pick c) = true
is_shelf_line (Swap c i value) = true
is_shelf_line (Fail j value) = true
is_shelf_line (Due j) = false
is_shelf_line Tick = false
is_shelf_line (At op c j) = true
is_shelf_line (By op c) = true

abbrev pub shelf_line : Option Call → Option Call
shelf_line none = none
shelf_line (some x) = cond (is_shelf_line x) (some x) none

-- the call that a line of shelfrun stands for
abbrev pub shelf_call : List ℕ → Option Call
shelf_call line = shelf_line (call line)

---- output

-- "Events: swapped, added, locked (each lock), rebuilt (the nth settle)": the answer's event, by its call
abbrev pub is_rebuilt : Answer → Bool
is_rebuilt Accepted = false
is_rebuilt (Stripe.Shown source block) = false
is_rebuilt Added = false
is_rebuilt Done = false
is_rebuilt Rebuilt = true
is_rebuilt (Told finding) = false
is_rebuilt (Refused why) = false

abbrev pub if_accepted : Answer → Maybe Event → Maybe Event
if_accepted a event = cond (eqb (number a) 0) event None

abbrev pub event_at : NodeCall → Answer → Maybe Event
event_at Add a = if_accepted a (Some Events.Added)
event_at Check a = None

abbrev pub event_by : ClientCall → Answer → Maybe Event
event_by Drop a = None
event_by Sweep a = None
event_by Stop a = None
event_by Lock a = if_accepted a (Some Events.Locked)
event_by Weaken a = None
event_by Tighten a = None
event_by Write a = None
event_by Settle a = cond (is_rebuilt a) (Some Events.Rebuilt) None
event_by Unlock a = None
event_by Quit a = None

abbrev pub event_of : Call → Answer → Maybe Event
event_of (Read i) a = None
event_of (Pick c) a = None
event_of (Swap c i value) a = if_accepted a (Some Events.Swapped)
event_of (Fail j value) a = None
event_of (Due j) a = None
event_of Tick a = None
event_of (At op c j) a = event_at op a
event_of (By op c) a = event_by op a

-- the words, in ASCII
abbrev pub word : Maybe Event → List ℕ
word (Some Events.Swapped) = 115 ∷ 119 ∷ 97 ∷ 112 ∷ 112 ∷ 101 ∷ 100 ∷ []
word (Some Events.Added) = 97 ∷ 100 ∷ 100 ∷ 101 ∷ 100 ∷ []
word (Some Events.Locked) = 108 ∷ 111 ∷ 99 ∷ 107 ∷ 101 ∷ 100 ∷ []
word (Some Events.Rebuilt) = 114 ∷ 101 ∷ 98 ∷ 117 ∷ 105 ∷ 108 ∷ 116 ∷ []
word None = 45 ∷ []

-- capitals
abbrev pub hex_of : ℕ → ℕ
hex_of x = cond (leb x 9) (48 + x) (55 + x)

unfoldable pub hex : List ℕ → List ℕ
hex [] = []
hex (x ∷ xs) = hex_of (x / 16) ∷ hex_of (x % 16) ∷ hex xs

-- "and the byte read or '-'": a block of no byte shows none
abbrev pub shown : Answer → List ℕ
shown Accepted = 45 ∷ []
shown (Stripe.Shown source []) = 45 ∷ []
shown (Stripe.Shown source (x ∷ xs)) = hex (x ∷ xs)
shown Added = 45 ∷ []
shown Done = 45 ∷ []
shown Rebuilt = 45 ∷ []
shown (Told finding) = 45 ∷ []
shown (Refused why) = 45 ∷ []

-- what is shown of a block of one byte
abbrev pub shown_text : Maybe ℕ → List ℕ
shown_text None = 45 ∷ []
shown_text (Some b) = hex (b ∷ [])

-- the decimal digits of a number of at most so many
unfoldable pub decimal_in : ℕ → ℕ → List ℕ
decimal_in zero n = []
decimal_in (suc places) n = cond (ltb n 10) ((48 + n) ∷ []) (decimal_in places (n / 10) ++ (48 + n % 10) ∷ [])

-- 20 hold every number of 64 bits
abbrev pub decimal : ℕ → List ℕ
decimal n = decimal_in 20 n

-- a field and the space after it; the last field and the end of the line
abbrev pub spaced : List ℕ → List ℕ
spaced field = field ++ 32 ∷ []

abbrev pub ended : List ℕ → List ℕ
ended field = field ++ 10 ∷ []

-- "its number from 1, an event or "-", the answer number (0 if accepted), and the byte read or "-""
abbrev pub printed : ℕ → Maybe Event → ℕ → List ℕ → List ℕ
printed number event answer text = spaced (decimal number) ++ (spaced (word event) ++ (spaced (decimal answer) ++ ended text))
