-- What an input has left, and what is taken of it, where its reader's bytes are known. Assumes nothing.
use Rattle.std.specs.Prelude.{Bool, ◌≡◌, List, [], ◌∷◌, ℕ, ◌-◌, ◌^◌, ◌<◌, length, nat_lt, slice_range, Option, None, Some, IfSome}
use Rattle.std.specs.Io.BufRead.{drop_through}
use Rattle.std.specs.Io.KnownBytes.{Consumes, IsAtEnd, prepend_known}
use Rattle.streams.specs.declared.input.Input.{Input}

-- the bytes of the buffer that were not yet taken, and then those of the reader
abbrev pub unread : {R : Type 0} → (R → Option (List ℕ)) → Input R → Option (List ℕ)
unread remaining input = prepend_known (slice_range input.buffer input.at input.end) (remaining input.from)

-- the next byte is taken; or nothing was left
abbrev pub TakesByte : Option (List ℕ) → Option (List ℕ) → Option ℕ → Type 0
TakesByte before after (Some byte) = Consumes before after (byte ∷ [])
TakesByte before after None = Consumes before after [] × IsAtEnd after

-- fewer than the turns of a loop
abbrev pub IsCounted : List ℕ → Type 0
IsCounted bytes = length bytes < 2 ^ 64 - 1

-- all up to a line's end is taken; there was a line if a byte was left
abbrev pub TakesLine : Option (List ℕ) → Option (List ℕ) → Bool → Type 0
TakesLine before after is_line =
    IfSome before (λ bytes. IsCounted bytes → (after ≡ Some (drop_through 10 bytes)) × (is_line ≡ nat_lt 0 (length bytes)))

-- all was read
abbrev pub Ended : Option (List ℕ) → Option (List ℕ) → Type 0
Ended before after = IfSome before (λ bytes. IsCounted bytes → IsAtEnd after)
