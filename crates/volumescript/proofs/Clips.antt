-- Clipping goes through the reading of a line: numbers and values may be clipped field by field. Assumes nothing.
use mathlib.Core.Path.{◌≡◌, refl, sym, ap, ◌∙◌}
use mathlib.Core.Bool.{Bool, true, false, cond}
use mathlib.Core.List.{List, [], ◌∷◌}
use mathlib.Core.Option.{Option, none, some, map}
use Prim.Native.Nat.{ℕ}
use native.Mathlib.Omega.{arith}
use lib.Dec.{eqb}
use borrow.Author.Tests.{ne_eqb}
use Rattle.machine.specs.Calls.{Call, Read, Pick, Swap, Fail, Due, Tick, At, By}
use Rattle.script.specs.Lines.{bytes_of, call_by, digits_from, is_digit, line_of, numeral, with_three}
use Rattle.script.specs.Reading.{clip, clip_digits, clip_number, clipped, last, number_from, value_from}
use Rattle.script.specs.declared.reader.Number.TheVariants.{Empty}
use Rattle.script.proofs.Clipping.{and-false}
use Rattle.script.proofs.Clips.{clip-numeral, clip-whole, digit-bounds}
use Rattle.volume.specs.Volume.{is_of_each}
use Rattle.volumescript.specs.Lines.{Line, One, ReadBlock, Show, by_first, by_word, of_each, of_number, of_one, of_swap, swapping}
use Rattle.volumescript.specs.Reading.{after_block, after_number, after_stripe, clip_line, clipped_line, last_line, letters, with_bytes}
use Rattle.volumescript.specs.declared.reader.Word.{Word}
use Rattle.volumescript.specs.declared.reader.Word.TheVariants as Words

-- no word begins with another letter
module _ (x : ℕ) (not-82 : x ≡ 82 → ⊥) (not-83 : x ≡ 83 → ⊥) (not-67 : x ≡ 67 → ⊥) (not-78 : x ≡ 78 → ⊥) where
  pub no_words : (y : ℕ) (p : List ℕ) (ps : List (List ℕ)) → by_word (x ∷ y ∷ p) ps ≡ none
  unfolding by_word
  no_words y [] ps = rw (ne_eqb x 82 not-82, ne_eqb x 83 not-83, ne_eqb x 67 not-67, ne_eqb x 78 not-78)
  no_words y (z ∷ p) ps = refl

  pub no_word : (x ≡ 63 → ⊥) → (p : List ℕ) (ps : List (List ℕ)) → by_word (x ∷ p) ps ≡ none
  unfolding by_word
  no_word not-63 [] ps = rw (ne_eqb x 63 not-63)
  no_word not-63 (y ∷ p) ps = no_words y p ps

-- nor goes one on with another
pub no_second : (x y : ℕ) → (y ≡ 66 → ⊥) → (y ≡ 67 → ⊥) → (p : List ℕ) (ps : List (List ℕ)) → by_word (x ∷ y ∷ p) ps ≡ none
unfolding by_word
no_second x y not-66 not-67 [] ps =
    rw (ne_eqb y 66 not-66, ne_eqb y 67 not-67, and-false (eqb x 82), and-false (eqb x 83), and-false (eqb x 67), and-false (eqb x 78))
no_second x y not-66 not-67 (z ∷ p) ps = refl

pub no_block : (x : ℕ) → (x ≡ 82 → ⊥) → (x ≡ 83 → ⊥) → (p : List ℕ) (ps : List (List ℕ)) → by_word (x ∷ 66 ∷ p) ps ≡ none
unfolding by_word
no_block x not-82 not-83 [] ps = rw (ne_eqb x 82 not-82, ne_eqb x 83 not-83, and-false (eqb x 67), and-false (eqb x 78))
no_block x not-82 not-83 (z ∷ p) ps = refl

pub no-card : (x : ℕ) → (x ≡ 67 → ⊥) → (x ≡ 78 → ⊥) → (p : List ℕ) (ps : List (List ℕ)) → by_word (x ∷ 67 ∷ p) ps ≡ none
unfolding by_word
no-card x not-67 not-78 [] ps = rw (and-false (eqb x 82), and-false (eqb x 83), ne_eqb x 67 not-67, ne_eqb x 78 not-78)
no-card x not-67 not-78 (z ∷ p) ps = refl

pub no-numeral : (x : ℕ) (p : List ℕ) → is_digit x ≡ false → numeral (x ∷ p) ≡ none
unfolding numeral digits_from
no-numeral x p e = rw e

module _ (room : ℕ) where
  pub same-each : (call : Call) → is_of_each (clip room call) ≡ is_of_each call
  same-each (Read i) = refl
  same-each (Pick c) = refl
  same-each (Swap c i value) = refl
  same-each (Fail j value) = refl
  same-each (Due j) = refl
  same-each Tick = refl
  same-each (At op c j) = refl
  same-each (By op c) = refl

  -- a stripe's call
  pub clip-one : (s : ℕ) (call : Option Call) → clipped_line room (of_one s call) ≡ of_one (clip_digits s) (clipped room call)
  clip-one s none = refl
  clip-one s (some call) = rw (same-each call) (by (is_of_each call))
    where
      by : (t : Bool) → clipped_line room (cond t none (some (One s call))) ≡ cond t none (some (One (clip_digits s) (clip room call)))
      by true = refl
      by false = refl

  clip-each : (call : Option Call) → clipped_line room (of_each call) ≡ of_each (clipped room call)
  clip-each none = refl
  clip-each (some call) = refl

  -- the rest of the line as after C and N
  pub stop-line : (p : List ℕ) (ps : List (List ℕ)) → of_each (clipped room (line_of ((67 ∷ p) ∷ ps))) ≡ clipped_line room (by_word (67 ∷ 67 ∷ p) ps)
  unfolding by_word line_of
  stop-line [] ps = sym (clip-each (call_by 67 ps))
  stop-line (y ∷ p) ps = refl

  pub fail-line : (p : List ℕ) (ps : List (List ℕ)) → of_each (clipped room (line_of ((78 ∷ p) ∷ ps))) ≡ clipped_line room (by_word (78 ∷ 67 ∷ p) ps)
  unfolding by_word line_of
  fail-line [] ps = sym (clip-each (call_by 78 ps))
  fail-line (y ∷ p) ps = refl

  -- a line that begins with a digit is a stripe's
  pub by-stripe : (x : ℕ) (p : List ℕ) (ps : List (List ℕ)) → is_digit x ≡ true
      → clipped_line room (by_first (numeral (x ∷ p)) (x ∷ p) ps) ≡ after_stripe (number_from Empty (x ∷ p)) (clipped room (line_of ps))
  by-stripe x p ps digit = by (numeral (x ∷ p)) ∙ ap (λ n. after_stripe n (clipped room (line_of ps))) (clip-whole (x ∷ p))
    where
      by : (n : Option ℕ) → clipped_line room (by_first n (x ∷ p) ps) ≡ after_stripe (map clip_digits n) (clipped room (line_of ps))
      by none = let low = digit-bounds x digit in
          ap (clipped_line room) (no_word x (λ e. omega (arith, e, low)) (λ e. omega (arith, e, low)) (λ e. omega (arith, e, low)) (λ e. omega (arith, e, low))
          (λ e. omega (arith, e, low)) p ps)
      by (some s) = clip-one s (line_of ps)

  -- a word's number
  clip-last : (line : ℕ → Line) → ((n : ℕ) → clip_line room (line n) ≡ line (clip_digits n)) → (p : List ℕ) (ps : List (List ℕ))
      → clipped_line room (of_number line (p ∷ ps)) ≡ last_line ps (map line (number_from Empty p))
  clip-last line same p [] = by (numeral p) ∙ ap (map line) (clip-whole p)
    where
      by : (n : Option ℕ) → clipped_line room (map line n) ≡ map line (map clip_digits n)
      by none = refl
      by (some n) = ap some (same n)
  clip-last line same p (q ∷ ps) = refl

  clip-swapping : (c b : Option ℕ) (value : Option (List ℕ))
      → clipped_line room (swapping c b value) ≡ swapping (map clip_number c) (map clip_digits b) (value_from room [] value)
  clip-swapping none b value = refl
  clip-swapping (some c) none value = refl
  clip-swapping (some c) (some b) none = refl
  clip-swapping (some c) (some b) (some value) = refl

  pub clip-show : (p : List ℕ) (ps : List (List ℕ)) → clipped_line room (of_number Show (p ∷ ps)) ≡ after_number room Words.Show (number_from Empty p) ps
  unfolding after_number
  clip-show = clip-last Show (λ n. refl)

  pub clip-read : (p : List ℕ) (ps : List (List ℕ)) → clipped_line room (of_number ReadBlock (p ∷ ps)) ≡ after_number room Words.Read (number_from Empty p) ps
  unfolding after_number
  clip-read = clip-last ReadBlock (λ n. refl)

  pub clip-swap : (p : List ℕ) (ps : List (List ℕ)) → clipped_line room (of_swap (p ∷ ps)) ≡ after_number room Words.Swap (number_from Empty p) ps
  unfolding after_number after_block
  clip-swap p [] = refl
  clip-swap p (b ∷ []) = refl
  clip-swap p (b ∷ v ∷ []) = clip-swapping (numeral p) (numeral b) (bytes_of v) ∙ rw (clip-numeral p, clip-whole b)
  clip-swap p (b ∷ v ∷ w ∷ more) = refl

  -- a word, and what follows it
  pub word_number : (word : Word) (p : List ℕ) (ps : List (List ℕ))
      → after_number room word (number_from Empty p) ps ≡ clipped_line room (by_word (letters word []) (p ∷ ps))
  unfolding by_word
  word_number Words.Show p ps = sym (clip-show p ps)
  word_number Words.Read p ps = sym (clip-read p ps)
  word_number Words.Swap p ps = sym (clip-swap p ps)

  -- what makes no line
  pub no-client : (b : Option ℕ) (ps : List (List ℕ)) → after_block room none b ps ≡ none
  unfolding after_block
  no-client b [] = refl
  no-client b (p ∷ []) = refl
  no-client b (p ∷ q ∷ ps) = refl

  pub no_number : (word : Word) → after_number room word none [] ≡ none
  unfolding after_number
  no_number Words.Show = refl
  no_number Words.Read = refl
  no_number Words.Swap = refl

-- the value of a swap is read as that of a stripe's swap
pub swap-value : (c b : ℕ) (v : Option (List ℕ)) (ps : List (List ℕ))
    → with_bytes c b (last ps (with_three (some c) (some 0) v)) ≡ last_line ps (swapping (some c) (some b) v)
swap-value c b none [] = refl
swap-value c b (some value) [] = refl
swap-value c b v (p ∷ ps) = refl

pub no_line : (ps : List (List ℕ)) → last_line ps none ≡ none
no_line [] = refl
no_line (p ∷ ps) = refl

pub no_call : (n : Option ℕ) → after_stripe n none ≡ none
no_call none = refl
no_call (some s) = refl

pub longer-word : (word : Word) (y : ℕ) (p : List ℕ) (ps : List (List ℕ)) → by_word (letters word (y ∷ p)) ps ≡ none
unfolding by_word
longer-word Words.Show y p ps = no_words 63 (λ e. omega (arith, e)) (λ e. omega (arith, e)) (λ e. omega (arith, e)) (λ e. omega (arith, e)) y p ps
longer-word Words.Read y p ps = refl
longer-word Words.Swap y p ps = refl

pub letter-alone : (x : ℕ) → by_word (x ∷ []) [] ≡ none
unfolding by_word
letter-alone x = by (eqb x 63)
  where
    by : (t : Bool) → cond t (of_number Show []) none ≡ none
    by true = refl
    by false = refl

pub word-alone : (word : Word) → by_word (letters word []) [] ≡ none
unfolding by_word
word-alone Words.Show = refl
word-alone Words.Read = refl
word-alone Words.Swap = refl
