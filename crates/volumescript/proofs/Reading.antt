-- What a reader tells, over one byte: a space ends a field, any other byte goes on with it. Assumes nothing.
use mathlib.Core.Path.{◌≡◌, refl, sym, ap, ◌∙◌}
use mathlib.Core.List.{List, [], ◌∷◌, append_assoc, append-nil}
use mathlib.Core.Option.{Option}
use Prim.Native.Nat.{ℕ}
use Rattle.machine.specs.Calls.{Call}
use Rattle.script.specs.Lines.{parts}
use Rattle.script.specs.Reading as script
use Rattle.script.specs.declared.reader.LineReader.{LineReader}
use Rattle.script.proofs.Reading.{after-space, after-other}
use Rattle.volumescript.specs.Lines.{Line}
use Rattle.volumescript.specs.Reading.{Ends, Finishes, Follows, HasRead, Takes, goes_on}
use Rattle.volumescript.specs.declared.reader.VolumeLine.{VolumeLine}
use Rattle.volumescript.specs.declared.reader.VolumeReader.{VolumeReader}

module _ {reader next : VolumeReader} {value : List ℕ} {byte : ℕ} where
  pub at-space : byte ≡ 32 → ((p : List ℕ) (ps : List (List ℕ)) → goes_on next value (p ∷ ps) ≡ goes_on reader value ([] ∷ p ∷ ps))
      → Follows reader value byte next value
  at-space e f = record { room = refl; tells = after-space (goes_on next value) (goes_on reader value) e f }

  pub at_other : (byte ≡ 32 → ⊥) → ((p : List ℕ) (ps : List (List ℕ)) → goes_on next value (p ∷ ps) ≡ goes_on reader value ((byte ∷ p) ∷ ps))
      → Follows reader value byte next value
  at_other e f = record { room = refl; tells = after-other (goes_on next value) (goes_on reader value) e f }

-- the rest of the line is read as one of striperun's
pub within-line : {reader next : VolumeReader} {line line' : LineReader} {value after : List ℕ} {byte : ℕ} (of : Option Call → Option Line)
    → ((ps : List (List ℕ)) → goes_on reader value ps ≡ of (script.goes_on line value ps))
    → ((ps : List (List ℕ)) → goes_on next after ps ≡ of (script.goes_on line' after ps))
    → script.Follows line value byte line' after → Follows reader value byte next after
within-line of before now f = record { room = f.room; tells = λ rest. now _ ∙ ap of (f.tells rest) ∙ sym (before _) }

-- ---- of the bytes that were read

pub takes : {reader next : VolumeReader} {value after : List ℕ} {byte : ℕ} → Follows reader value byte next after → Takes reader value byte next after
unfolding HasRead
takes {byte = byte} f =
    record { room = f.room; holds = λ l h rest. f.tells rest ∙ h (byte ∷ rest) ∙ rw (f.room, append_assoc l (byte ∷ []) rest) }

pub ends : {reader : VolumeReader} {line : VolumeLine} → Finishes reader line → Ends reader line
unfolding HasRead parts
ends f = record { tells = λ l value h. f.tells value ∙ h [] ∙ rw append-nil }
