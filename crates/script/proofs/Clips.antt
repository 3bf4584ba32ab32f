-- Clipping goes through the reading of a line: numbers and values may be clipped field by field. Assumes nothing.
use mathlib.Core.Path.{◌≡◌, refl, sym, ap, ◌∙◌}
use mathlib.Core.Bool.{Bool, true, false, cond}
use mathlib.Core.List.{List, [], ◌∷◌, ◌++◌, append_assoc}
use mathlib.Core.Option.{Option, none, some, map}
use mathlib.Core.Logic.{◌⊎◌, inl, inr}
use Prim.Native.Nat.{ℕ, zero, suc, ◌+◌, ◌-◌, ◌*◌, ◌≤◌, ◌<◌}
use native.Mathlib.Omega.{arith}
use lib.Dec.{eqb, leb}
use native.Mathlib.Numerals.{add-one}
use lib.ListN.{length, set, length-set}
use lib.Seq.{take-nil, take-append-le, take-suc-set}
use borrow.Author.Tests.{eqb-true, leb-true}
use Rattle.basics.proofs.Tests.{and_both}
use Rattle.machine.specs.Calls.{Call}
use Rattle.machine.specs.Calls as Calls
use Rattle.script.specs.Lines.{is_digit, digits_from, numeral, both, bytes_of, with_none, with_one, with_two, with_value, with_three, call_by}
use Rattle.script.specs.Reading.{clip_digits, clip_number, narrowed, clip_value, clip, clipped, kept, Stored, clipped_from, number_from, value_from, last, after_first, after_second, with_target}
use Rattle.script.specs.declared.reader.Number.{Number}
use Rattle.script.specs.declared.reader.Number.TheVariants.{Empty, Digits, Bad}
use Rattle.script.specs.declared.reader.Target.{Target}
use Rattle.script.specs.declared.reader.Target.TheVariants as Targets

map-cond : {A B : Type 0} (f : A → B) (t : Bool) (x y : Option A) → map f (cond t x y) ≡ cond t (map f x) (map f y)
map-cond f true x y = refl
map-cond f false x y = refl

-- a line of no field has nothing to clip
pub clip-none : (room letter : ℕ) → clipped room (with_none letter) ≡ with_none letter
clip-none room letter = map-cond (clip room) (eqb letter 75) (some Calls.tick) none

cond_same : {A : Type 0} (t : Bool) (x : A) → cond t x x ≡ x
cond_same true x = refl
cond_same false x = refl

pub last_none : (ps : List (List ℕ)) → last ps none ≡ none
last_none [] = refl
last_none (p ∷ ps) = refl

-- ---- numbers

pub digit-bounds : (x : ℕ) → is_digit x ≡ true → (48 ≤ x) × (x ≤ 57)
digit-bounds x e = let both = and_both (leb 48 x) (leb x 57) e in (leb-true 48 x both.0, leb-true x 57 both.1)

-- a number goes on with a digit, and with nothing else
pub no_digit : (number : Number) (x : ℕ) (l : List ℕ) → is_digit x ≡ false → number_from number (x ∷ l) ≡ none
unfolding number_from clipped_from
no_digit Empty x l e = rw e
no_digit (Digits n) x l e = rw e
no_digit Bad x l e = refl

clip-digits : (n : ℕ) (l : List ℕ) → map clip_digits (digits_from n l) ≡ clipped_from (clip_digits n) l
unfolding digits_from clipped_from
clip-digits n [] = refl
clip-digits n (x ∷ xs) =
    let again : clip_digits (n * 10 + (x - 48)) ≡ clip_digits (clip_digits n * 10 + (x - 48)) = omega arith in
    rw (map-cond, clip-digits (n * 10 + (x - 48)) xs, again)

-- a number as it is kept
pub clip-whole : (l : List ℕ) → map clip_digits (numeral l) ≡ number_from Empty l
unfolding numeral number_from
clip-whole [] = refl
clip-whole (x ∷ xs) = clip-digits 0 (x ∷ xs)

clip-twice : (n : Option ℕ) → narrowed (map clip_digits n) ≡ map clip_number n
clip-twice none = refl
clip-twice (some n) = let same : clip_number (clip_digits n) ≡ clip_number n = omega arith in ap some same

-- and as that of a client, a position or a node
pub clip-numeral : (l : List ℕ) → map clip_number (numeral l) ≡ narrowed (number_from Empty l)
clip-numeral l = sym (clip-twice (numeral l)) ∙ ap narrowed (clip-whole l)

-- ---- values

module _ (byte : ℕ) (more : List ℕ) where
  -- past the room there is a 0, whatever was there
  past_room : (v : List ℕ) (k : ℕ) → length v ≤ k → clip_value (length v) (kept k v ++ byte ∷ more) ≡ v ++ 0 ∷ []
  unfolding clip_value
  past_room [] zero l = refl
  past_room [] (suc k) l = refl
  past_room (x ∷ v) zero l = absurd (omega arith)
  past_room (x ∷ v) (suc k) l = ap (λ (t : List ℕ). x ∷ t) (past_room v k (omega arith))

  all-and-one : (v : List ℕ) → clip_value (length v) (kept (suc (length v)) v ++ more) ≡ v ++ 0 ∷ []
  unfolding clip_value
  all-and-one [] = refl
  all-and-one (x ∷ v) = ap (λ (t : List ℕ). x ∷ t) (all-and-one v)

-- what is kept is within the clip
pub clip-kept : (v : List ℕ) (k : ℕ) → clip_value (length v) (kept k v) ≡ kept k v
unfolding clip_value
clip-kept [] zero = refl
clip-kept [] (suc k) = ap (λ (t : List ℕ). 0 ∷ t) (sym (take-nil k))
clip-kept (x ∷ v) zero = refl
clip-kept (x ∷ v) (suc k) = ap (λ (t : List ℕ). x ∷ t) (clip-kept v k)

module _ (v : List ℕ) (count byte : ℕ) where
  pub stored-within : count < length v → Stored v count byte (set v count byte) (count + 1)
  stored-within l =
      record {
        room = length-set v count byte;
        value_so_far = λ more. ap (λ (t : List ℕ). clip_value (length v) (t ++ more)) kept-one-more ∙ rw append_assoc;
      }
    where
      kept-one-more : kept (count + 1) (set v count byte) ≡ kept count v ++ byte ∷ []
      kept-one-more =
          rw (add-one, take-append-le (suc count) (set v count byte) (0 ∷ []) (rw length-set l), take-suc-set v count byte l, take-append-le count v (0 ∷ []) (omega arith))

  pub stored_past : length v ≤ count → Stored v count byte v (length v + 1)
  stored_past l =
      record { room = refl; value_so_far = λ more. rw add-one (all-and-one byte more v ∙ sym (past_room byte more v count l)) }

pub two_digits : (high low : ℕ) (bytes : Option (List ℕ)) → both (some high) (some low) bytes ≡ map (λ more. (high * 16 + low) ∷ more) bytes
two_digits high low none = refl
two_digits high low (some more) = refl

pub no_value : (target : Target) → with_target target none ≡ none
no_value (Targets.Fail j) = refl
no_value (Targets.Swap c i) = refl

-- the value with that byte more
pub stored-value : {v : List ℕ} {count byte : ℕ} {after : List ℕ} {next : ℕ} → Stored v count byte after next → (bytes : Option (List ℕ))
    → value_from (length after) (kept next after) bytes ≡ value_from (length v) (kept count v) (map (λ more. byte ∷ more) bytes)
stored-value s none = refl
stored-value s (some more) = rw s.room (ap some (s.value_so_far more))

-- ---- calls, by their fields

module _ (room letter : ℕ) where
  clip-one : (n : Option ℕ) → clipped room (with_one letter n) ≡ with_one letter (map clip_number n)
  clip-one none = refl
  clip-one (some c) = simp map-cond

  clip-two : (n k : Option ℕ) → clipped room (with_two letter n k) ≡ with_two letter (map clip_number n) (map clip_number k)
  clip-two none k = refl
  clip-two (some c) none = refl
  clip-two (some c) (some j) = simp map-cond

  clip-value : (n : Option ℕ) (v : Option (List ℕ)) → clipped room (with_value n v) ≡ with_value (map clip_number n) (value_from room [] v)
  clip-value none v = refl
  clip-value (some j) none = refl
  clip-value (some j) (some value) = refl

  clip-three : (n k : Option ℕ) (v : Option (List ℕ))
      → clipped room (with_three n k v) ≡ with_three (map clip_number n) (map clip_number k) (value_from room [] v)
  clip-three none k v = refl
  clip-three (some c) none v = refl
  clip-three (some c) (some i) none = refl
  clip-three (some c) (some i) (some value) = refl

  -- no call has both letters: a call with three fields after the letter has the one of a swap
  swap-only : (t : Bool) → eqb letter 78 ≡ t → (x : Option Call) → cond (eqb letter 83) x none ≡ cond t none (cond (eqb letter 83) x none)
  swap-only true e x = let is : letter ≡ 78 = eqb-true letter 78 e in rw is
  swap-only false e x = refl

  -- the fields of a call, clipped one by one
  pub clip-fields : (p : List ℕ) (ps : List (List ℕ)) → clipped room (call_by letter (p ∷ ps)) ≡ after_first room letter (narrowed (number_from Empty p)) ps
  unfolding call_by after_first after_second
  clip-fields p [] = clip-one (numeral p) ∙ ap (with_one letter) (clip-numeral p)
  clip-fields p (b ∷ []) = rw (map-cond, clip-value (numeral p) (bytes_of b), clip-two (numeral p) (numeral b), clip-numeral p, clip-numeral b)
  clip-fields p (b ∷ v ∷ []) =
      rw (map-cond, clip-three (numeral p) (numeral b) (bytes_of v), clip-numeral p, clip-numeral b) (swap-only (eqb letter 78) refl _)
  clip-fields p (b ∷ v ∷ w ∷ more) = sym (cond_same (eqb letter 78) none)

  -- what follows a field that is no number makes no call
  no-first-two : (second : Option ℕ) (ps : List (List ℕ)) → after_second room letter none second ps ≡ none
  unfolding after_second
  no-first-two second [] = refl
  no-first-two second (p ∷ ps) = rw cond_same (last_none ps)

  pub no-first : (ps : List (List ℕ)) → after_first room letter none ps ≡ none
  unfolding after_first
  no-first [] = refl
  no-first (p ∷ ps) = rw (last_none, no-first-two) (cond_same (eqb letter 78) none)

  pub no_second : (first : ℕ) (ps : List (List ℕ)) → after_second room letter (some first) none ps ≡ none
  unfolding after_second
  no_second first [] = refl
  no_second first (p ∷ ps) = rw cond_same (last_none ps)

-- by the first variant of an arm, or by a later one
pub either : {A B X : Type 0} → A ⊎ B → (A → X) → (B → X) → X
either (inl a) f g = f a
either (inr b) f g = g b
