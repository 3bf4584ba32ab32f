-- What a `LineReader` holds of a line that it has read in part, and what its `Line` says of the call. Assumes nothing.
use Rattle.std.specs.Prelude.{None, Some, Option as Maybe, ◌≡◌, cond, List, [], ◌∷◌, ◌++◌, ℕ, zero, suc, ◌+◌, ◌-◌, ◌*◌, ◌<◌, min, eqb, length, take}
use Rattle.std.proofs.Math.Option.{Option, none, some, map}
use Rattle.machine.specs.Calls.{Call, Read, Pick, Swap, Fail, Due, Tick, At, By}
use Rattle.calls.specs.Calls.{call_of}
use Rattle.script.specs.Lines.{onto, fields, is_digit, hex_digit, both, bytes_of, with_one, with_two, with_value, with_three, line_of, call}
use Rattle.script.specs.declared.reader.Line.{Line}
use Rattle.script.specs.declared.reader.Number.{Number}
use Rattle.script.specs.declared.reader.Number.TheVariants as Numbers
use Rattle.script.specs.declared.reader.Hex.{Hex}
use Rattle.script.specs.declared.reader.Hex.TheVariants as Hexes
use Rattle.script.specs.declared.reader.Target.{Target}
use Rattle.script.specs.declared.reader.Target.TheVariants as Targets
use Rattle.script.specs.declared.reader.LineReader.{LineReader}
use Rattle.script.specs.declared.reader.LineReader.TheVariants as Readers

---- clipped calls

-- every number above the limits is answered alike
abbrev pub clip_number : ℕ → ℕ
clip_number n = min n 255

-- what is kept of a number while its digits are read: more than any number that a program has use for
abbrev pub clip_digits : ℕ → ℕ
clip_digits n = min n 1000000

-- a value that the buffer has no room for: the bytes that fit, and a 0 for all that follow
unfoldable pub clip_value : ℕ → List ℕ → List ℕ
clip_value room [] = []
clip_value zero (x ∷ xs) = 0 ∷ []
clip_value (suc room) (x ∷ xs) = x ∷ clip_value room xs

abbrev pub clip : ℕ → Call → Call
clip room (Read i) = Read (clip_number i)
clip room (Pick c) = Pick (clip_number c)
clip room (Swap c i value) = Swap (clip_number c) (clip_number i) (clip_value room value)
clip room (Fail j value) = Fail (clip_number j) (clip_value room value)
clip room (Due j) = Due (clip_number j)
clip room Tick = Tick
clip room (At op c j) = At op (clip_number c) (clip_number j)
clip room (By op c) = By op (clip_number c)

abbrev pub clipped : ℕ → Option Call → Option Call
clipped room call = map (clip room) call

-- the first bytes of the buffer, as many as are counted; one more than it has room for is a 0
abbrev pub kept : ℕ → List ℕ → List ℕ
kept count value = take count (value ++ 0 ∷ [])

-- the call that a Line and the buffer stand for; none without a Line
abbrev pub call_in : Maybe Line → List ℕ → Option Call
call_in None value = none
call_in (Some line) value = some (call_of line.call (kept line.count value))

---- a line read in part: the clipped call that it becomes, by what follows

-- n, and digits that follow it
unfoldable pub clipped_from : ℕ → List ℕ → Option ℕ
clipped_from n [] = some n
clipped_from n (x ∷ xs) = cond (is_digit x) (clipped_from (clip_digits (n * 10 + (x - 48))) xs) none

-- the number of a field that goes on with l
unfoldable pub number_from : Number → List ℕ → Option ℕ
number_from Numbers.Empty [] = none
number_from Numbers.Empty (x ∷ xs) = clipped_from 0 (x ∷ xs)
number_from (Numbers.Digits n) l = clipped_from n l
number_from Numbers.Bad l = none

-- as the number of a client, a position or a node
abbrev pub narrowed : Option ℕ → Option ℕ
narrowed number = map clip_number number

-- the bytes of a field that goes on with l
unfoldable pub bytes_from : Hex → List ℕ → Option (List ℕ)
bytes_from Hexes.Whole l = bytes_of l
bytes_from (Hexes.Half x) l = bytes_of (x ∷ l)
bytes_from Hexes.Bad l = none

-- bytes, after those that were read before
abbrev pub value_from : ℕ → List ℕ → Option (List ℕ) → Option (List ℕ)
value_from room before bytes = map (λ more. clip_value room (before ++ more)) bytes

-- no field follows
abbrev pub last : List (List ℕ) → Option Call → Option Call
last [] call = call
last (p ∷ ps) call = none

-- the fields after the second number, and after the first
unfoldable pub after_second : ℕ → ℕ → Option ℕ → Option ℕ → List (List ℕ) → Option Call
after_second room letter first second [] = with_two letter first second
after_second room letter first second (p ∷ ps) = last ps (cond (eqb letter 83) (with_three first second (value_from room [] (bytes_of p))) none)

unfoldable pub after_first : ℕ → ℕ → Option ℕ → List (List ℕ) → Option Call
after_first room letter first [] = with_one letter first
after_first room letter first (p ∷ ps) =
    cond (eqb letter 78) (last ps (with_value first (value_from room [] (bytes_of p))))
    (after_second room letter first (narrowed (number_from Numbers.Empty p)) ps)

abbrev pub with_target : Target → Option (List ℕ) → Option Call
with_target (Targets.Fail j) value = with_value (some j) value
with_target (Targets.Swap c i) value = with_three (some c) (some i) value

-- the field that is being read goes on with the first part
unfoldable pub goes_on : LineReader → List ℕ → List (List ℕ) → Option Call
goes_on Readers.Unreadable value ps = none
goes_on Readers.Start value ps = clipped (length value) (line_of ps)
goes_on (Readers.Letter letter) value ps = clipped (length value) (line_of (onto letter ps))
goes_on (Readers.First letter first) value [] = none
goes_on (Readers.First letter first) value (p ∷ ps) = after_first (length value) letter (narrowed (number_from first p)) ps
goes_on (Readers.Second letter first second) value [] = none
goes_on (Readers.Second letter first second) value (p ∷ ps) = after_second (length value) letter (some first) (narrowed (number_from second p)) ps
goes_on (Readers.Value target hex count) value [] = none
goes_on (Readers.Value target hex count) value (p ∷ ps) = last ps (with_target target (value_from (length value) (kept count value) (bytes_from hex p)))

-- after the bytes l: however the line goes on, the reader and the buffer tell its clipped call
unfoldable pub HasRead : List ℕ → LineReader → List ℕ → Type 0
HasRead l reader value = (rest : List ℕ) → goes_on reader value (fields rest) ≡ clipped (length value) (call (l ++ rest))

-- the reader and the buffer after one byte more
pub record Takes (reader : LineReader) (value : List ℕ) (byte : ℕ) (next : LineReader) (after : List ℕ) : Type 0 where
  pub room : length after ≡ length value
  pub holds : (l : List ℕ) → HasRead l reader value → HasRead (l ++ byte ∷ []) next after

-- the same, said of what may follow
pub record Follows (reader : LineReader) (value : List ℕ) (byte : ℕ) (next : LineReader) (after : List ℕ) : Type 0 where
  pub room : length after ≡ length value
  pub tells : (rest : List ℕ) → goes_on next after (fields rest) ≡ goes_on reader value (fields (byte ∷ rest))

-- the line's end
pub record Ends (reader : LineReader) (line : Maybe Line) : Type 0 where
  pub tells : (l value : List ℕ) → HasRead l reader value → call_in line value ≡ clipped (length value) (call l)

-- the same: nothing follows
pub record Finishes (reader : LineReader) (line : Maybe Line) : Type 0 where
  pub tells : (value : List ℕ) → call_in line value ≡ goes_on reader value ([] ∷ [])

-- r is the hexadecimal digit x, which is less than 16, or None if x is none; the byte of two of them
abbrev pub HexDigit : ℕ → Maybe ℕ → Type 0
HexDigit x None = hex_digit x ≡ none
HexDigit x (Some r) = (hex_digit x ≡ some r) × (r < 16)

abbrev pub HexByte : ℕ → ℕ → Maybe ℕ → Type 0
HexByte x y None = (bytes : Option (List ℕ)) → both (hex_digit x) (hex_digit y) bytes ≡ none
HexByte x y (Some r) = (bytes : Option (List ℕ)) → both (hex_digit x) (hex_digit y) bytes ≡ map (λ more. r ∷ more) bytes

-- byte after the first count bytes of the value
pub record Stored (value : List ℕ) (count byte : ℕ) (after : List ℕ) (next : ℕ) : Type 0 where
  pub room : length after ≡ length value
  pub value_so_far : (more : List ℕ) → clip_value (length value) (kept next after ++ more) ≡ clip_value (length value) (kept count value ++ byte ∷ more)
