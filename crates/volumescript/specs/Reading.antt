-- What a `VolumeReader` holds of a line that it has read in part, and what its `VolumeLine` says of the line. Assumes nothing.
use Rattle.std.specs.Prelude.{◌≡◌, List, [], ◌∷◌, ◌++◌, ℕ, length}
use Rattle.std.proofs.Math.Option.{Option, none, some, map}
use Rattle.calls.specs.Calls.{call_of}
use Rattle.machine.specs.Calls.{Call, Read, Pick, Swap, Fail, Due, Tick, At, By}
use Rattle.script.specs.Lines.{bytes_of, fields, line_of}
use Rattle.script.specs.Reading as script
use Rattle.script.specs.Reading.{clip, clip_digits, clip_number, clip_value, clipped, kept, narrowed, number_from, value_from}
use Rattle.script.specs.declared.reader.Number.TheVariants as Numbers
use Rattle.volumescript.specs.Lines.{Line, One, Each, ReadBlock, SwapBlock, Show, by_word, line_in, of_each, of_one, swapping, volume_line}
use Rattle.volumescript.specs.declared.reader.VolumeLine.{VolumeLine}
use Rattle.volumescript.specs.declared.reader.VolumeLine.TheVariants as Lines
use Rattle.volumescript.specs.declared.reader.VolumeReader.{VolumeReader}
use Rattle.volumescript.specs.declared.reader.VolumeReader.TheVariants as Readers
use Rattle.volumescript.specs.declared.reader.Word.{Word}
use Rattle.volumescript.specs.declared.reader.Word.TheVariants as Words

-- ---- clipped lines: numbers as the reader keeps them, and values as the buffer does

abbrev pub clip_line : ℕ → Line → Line
clip_line room (One s call) = One (clip_digits s) (clip room call)
clip_line room (Each call) = Each (clip room call)
clip_line room (ReadBlock b) = ReadBlock (clip_digits b)
clip_line room (SwapBlock c b value) = SwapBlock (clip_number c) (clip_digits b) (clip_value room value)
clip_line room (Show s) = Show (clip_digits s)

abbrev pub clipped_line : ℕ → Option Line → Option Line
clipped_line room line = map (clip_line room) line

-- the line that a VolumeLine and the buffer stand for
abbrev pub line_told : VolumeLine → List ℕ → Option Line
line_told Lines.Unreadable value = none
line_told (Lines.One s call count) value = some (One s (call_of call (kept count value)))
line_told (Lines.Each call count) value = some (Each (call_of call (kept count value)))
line_told (Lines.ReadBlock b) value = some (ReadBlock b)
line_told (Lines.SwapBlock c b count) value = some (SwapBlock c b (kept count value))
line_told (Lines.Show s) value = some (Show s)

-- ---- a line read in part: the clipped line that it becomes, by what follows

abbrev pub letters : Word → List ℕ → List ℕ
letters Words.Show rest = 63 ∷ rest
letters Words.Read rest = 82 ∷ 66 ∷ rest
letters Words.Swap rest = 83 ∷ 66 ∷ rest

-- after the number of a stripe
abbrev pub after_stripe : Option ℕ → Option Call → Option Line
after_stripe none call = none
after_stripe (some s) call = of_one s call

-- no field follows
abbrev pub last_line : List (List ℕ) → Option Line → Option Line
last_line [] line = line
last_line (p ∷ ps) line = none

-- the fields after a swap's block, and after the number after a word
unfoldable pub after_block : ℕ → Option ℕ → Option ℕ → List (List ℕ) → Option Line
after_block room c b [] = none
after_block room c b (p ∷ ps) = last_line ps (swapping c b (value_from room [] (bytes_of p)))

unfoldable pub after_number : ℕ → Word → Option ℕ → List (List ℕ) → Option Line
after_number room Words.Show number ps = last_line ps (map Show number)
after_number room Words.Read number ps = last_line ps (map ReadBlock number)
after_number room Words.Swap number [] = none
after_number room Words.Swap number (p ∷ ps) = after_block room (narrowed number) (number_from Numbers.Empty p) ps

-- a swap of a block, with the bytes of a stripe's swap
abbrev pub with_bytes : ℕ → ℕ → Option Call → Option Line
with_bytes c b none = none
with_bytes c b (some (Read i)) = none
with_bytes c b (some (Pick d)) = none
with_bytes c b (some (Swap d i value)) = some (SwapBlock c b value)
with_bytes c b (some (Fail j value)) = none
with_bytes c b (some (Due j)) = none
with_bytes c b (some Tick) = none
with_bytes c b (some (At op d j)) = none
with_bytes c b (some (By op d)) = none

-- the field that is being read goes on with the first part
unfoldable pub goes_on : VolumeReader → List ℕ → List (List ℕ) → Option Line
goes_on Readers.Unreadable value ps = none
goes_on Readers.Start value ps = clipped_line (length value) (line_in ps)
goes_on (Readers.Letter letter) value [] = none
goes_on (Readers.Letter letter) value (p ∷ ps) = clipped_line (length value) (by_word (letter ∷ p) ps)
goes_on (Readers.Word word) value [] = none
goes_on (Readers.Word word) value (p ∷ ps) = clipped_line (length value) (by_word (letters word p) ps)
goes_on (Readers.Stripe number) value [] = none
goes_on (Readers.Stripe number) value (p ∷ ps) = after_stripe (number_from number p) (clipped (length value) (line_of ps))
goes_on (Readers.First word number) value [] = none
goes_on (Readers.First word number) value (p ∷ ps) = after_number (length value) word (number_from number p) ps
goes_on (Readers.Block c number) value [] = none
goes_on (Readers.Block c number) value (p ∷ ps) = after_block (length value) (some c) (number_from number p) ps
goes_on (Readers.One s line) value ps = of_one s (script.goes_on line value ps)
goes_on (Readers.Each line) value ps = of_each (script.goes_on line value ps)
goes_on (Readers.Value c b line) value ps = with_bytes c b (script.goes_on line value ps)

-- after the bytes l: however the line goes on, the reader and the buffer tell its clipped line
unfoldable pub HasRead : List ℕ → VolumeReader → List ℕ → Type 0
HasRead l reader value = (rest : List ℕ) → goes_on reader value (fields rest) ≡ clipped_line (length value) (volume_line (l ++ rest))

-- the reader and the buffer after one byte more; and the line's end
pub record Takes (reader : VolumeReader) (value : List ℕ) (byte : ℕ) (next : VolumeReader) (after : List ℕ) : Type 0 where
  pub room : length after ≡ length value
  pub holds : (l : List ℕ) → HasRead l reader value → HasRead (l ++ byte ∷ []) next after

pub record Ends (reader : VolumeReader) (line : VolumeLine) : Type 0 where
  pub tells : (l value : List ℕ) → HasRead l reader value → line_told line value ≡ clipped_line (length value) (volume_line l)

-- the same two, said of what may follow
pub record Follows (reader : VolumeReader) (value : List ℕ) (byte : ℕ) (next : VolumeReader) (after : List ℕ) : Type 0 where
  pub room : length after ≡ length value
  pub tells : (rest : List ℕ) → goes_on next after (fields rest) ≡ goes_on reader value (fields (byte ∷ rest))

pub record Finishes (reader : VolumeReader) (line : VolumeLine) : Type 0 where
  pub tells : (value : List ℕ) → line_told line value ≡ goes_on reader value ([] ∷ [])
