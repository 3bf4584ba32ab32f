-- What a reader tells, over one byte: a space ends a field, any other byte goes on with it. Assumes nothing.
use mathlib.Core.Path.{◌≡◌, ◌∙◌}
use mathlib.Core.List.{List, [], ◌∷◌, append_assoc, append-nil}
use Prim.Native.Nat.{ℕ}
use lib.Dec.{eqb}
use lib.ListN.{length}
use borrow.Author.Tests.{ne_eqb}
use Rattle.basics.proofs.Tests.{cond_ind}
use Rattle.script.specs.Lines.{onto, parts, fields}
use Rattle.script.specs.Reading.{goes_on, HasRead, Takes, Follows, Ends, Finishes}
use Rattle.std.specs.declared.option.Option.{Option as Maybe}
use Rattle.script.specs.declared.reader.Line.{Line}
use Rattle.script.specs.declared.reader.LineReader.{LineReader}

-- a line has a first field
fields-cases : (P : List (List ℕ) → Type 0) → ((p : List ℕ) (ps : List (List ℕ)) → P (p ∷ ps)) → (l : List ℕ) → P (fields l)
unfolding parts
fields-cases P each [] = each [] []
fields-cases P each (x ∷ xs) =
    cond_ind P (eqb x 32) ([] ∷ fields xs) (onto x (fields xs)) (λ e. each [] (fields xs))
    (λ e. fields-cases (λ ps. P (onto x ps)) (λ p ps. each (x ∷ p) ps) xs)

-- whatever is told of the fields that follow
module _ {A : Type 0} (next before : List (List ℕ) → A) {byte : ℕ} where
  pub after-space : byte ≡ 32 → ((p : List ℕ) (ps : List (List ℕ)) → next (p ∷ ps) ≡ before ([] ∷ p ∷ ps)) → (rest : List ℕ)
      → next (fields rest) ≡ before (fields (byte ∷ rest))
  unfolding parts
  after-space e f rest = rw e (fields-cases (λ ps. next ps ≡ before ([] ∷ ps)) f rest)

  pub after-other : (byte ≡ 32 → ⊥) → ((p : List ℕ) (ps : List (List ℕ)) → next (p ∷ ps) ≡ before ((byte ∷ p) ∷ ps)) → (rest : List ℕ)
      → next (fields rest) ≡ before (fields (byte ∷ rest))
  unfolding parts
  after-other e f rest = rw (ne_eqb byte 32 e) (fields-cases (λ ps. next ps ≡ before (onto byte ps)) f rest)

module _ {reader next : LineReader} {value after : List ℕ} {byte : ℕ} (same : length after ≡ length value) where
  pub at-space : byte ≡ 32 → ((p : List ℕ) (ps : List (List ℕ)) → goes_on next after (p ∷ ps) ≡ goes_on reader value ([] ∷ p ∷ ps))
      → Follows reader value byte next after
  at-space e f = record { room = same; tells = after-space (goes_on next after) (goes_on reader value) e f }

  pub at_other : (byte ≡ 32 → ⊥) → ((p : List ℕ) (ps : List (List ℕ)) → goes_on next after (p ∷ ps) ≡ goes_on reader value ((byte ∷ p) ∷ ps))
      → Follows reader value byte next after
  at_other e f = record { room = same; tells = after-other (goes_on next after) (goes_on reader value) e f }

pub takes : {reader next : LineReader} {value after : List ℕ} {byte : ℕ} → Follows reader value byte next after → Takes reader value byte next after
unfolding HasRead
takes {byte = byte} f =
    record { room = f.room; holds = λ l h rest. f.tells rest ∙ h (byte ∷ rest) ∙ rw (f.room, append_assoc l (byte ∷ []) rest) }

-- at the line's end nothing follows
pub ends : {reader : LineReader} {line : Maybe Line} → Finishes reader line → Ends reader line
unfolding HasRead parts
ends f = record { tells = λ l value h. f.tells value ∙ h [] ∙ rw append-nil }
