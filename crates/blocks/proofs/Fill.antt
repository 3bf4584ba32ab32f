-- A loop that writes a slice from its start: after i turns the slice is `old` with the first i bytes of `goal`. One invariant serves them all.
--     filled_none    before the first turn
--     filled-turn    a turn stores the goal's byte at i
--     filled-rest    the byte at i is the old one still
--     filled-all     at the end the slice is the goal
-- The goal is often a `zip` of the old bytes and a source's; its laws stand here too. Assumes nothing.
use mathlib.Core.Path.{◌≡◌, refl, sym, ap, ◌∙◌}
use mathlib.Core.List.{List, [], ◌∷◌, ◌++◌, append-nil}
use Prim.Native.Nat.{ℕ, zero, suc, ◌+◌, ◌≤◌, ◌<◌}
use native.Mathlib.Nat.{le_of_suc-le-suc, not-suc-le-zero}
use native.Mathlib.Numerals.{add-one}
use native.Mathlib.Omega.{arith}
use lib.ListN.{length, get_or, take, drop, set, length-set, drop_of_length-le}
use lib.Seq.{take_all, take-suc, drop-cons, append_snoc, length-take-le, set_at, get_or_at}
use Rattle.blocks.specs.Blocks.{zip}

pub record Filled (i : ℕ) (goal old now : List ℕ) : Type 0 where
  pub same_length : length now ≡ length old
  pub bytes : now ≡ take i goal ++ drop i old

pub filled_none : (goal old : List ℕ) → Filled 0 goal old old
filled_none goal old = record { same_length = refl; bytes = refl }

module _ (i : ℕ) (goal old now : List ℕ) (same : length goal ≡ length old) (f : Filled i goal old now) where
  -- what is left of the old bytes begins with the one at i
  next : i < length old → now ≡ take i goal ++ (get_or old i 0 ∷ drop (suc i) old)
  next l = f.bytes ∙ ap (λ (r : List ℕ). take i goal ++ r) (drop-cons old i 0 l)

  head : i < length old → length (take i goal) ≡ i
  head l = length-take-le i goal (omega arith)

  pub filled-turn : (v : ℕ) → i < length old → v ≡ get_or goal i 0 → Filled (i + 1) goal old (set now i v)
  filled-turn v l e = record {
    same_length = length-set now i v ∙ f.same_length;
    bytes =
        ap (λ (r : List ℕ). set r i v) (next l)
        ∙ set_at (take i goal) (get_or old i 0) (drop (suc i) old) v i (head l)
        ∙ sym (append_snoc (take i goal) v (drop (suc i) old))
        ∙ ap (λ (r : List ℕ). r ++ drop (suc i) old)
        (ap (λ (x : ℕ). take i goal ++ (x ∷ [])) e ∙ sym (take-suc goal i 0 (omega arith)))
        ∙ ap (λ (n : ℕ). take n goal ++ drop n old) (sym (add-one i));
  }

  pub filled-rest : i < length old → get_or now i 0 ≡ get_or old i 0
  filled-rest l =
      ap (λ (r : List ℕ). get_or r i 0) (next l) ∙ get_or_at (take i goal) (get_or old i 0) (drop (suc i) old) 0 i (head l)

  pub filled-all : length old ≤ i → now ≡ goal
  filled-all l =
      f.bytes ∙ ap (λ (r : List ℕ). take i goal ++ r) (drop_of_length-le old l) ∙ append-nil (take i goal)
      ∙ take_all i goal (omega arith)

-- ---- zip

pub zip_length : (f : ℕ → ℕ → ℕ) (xs ys : List ℕ) → length (zip f xs ys) ≡ length xs
unfolding zip
zip_length f [] ys = refl
zip_length f (x ∷ xs) [] = refl
zip_length f (x ∷ xs) (y ∷ ys) = ap suc (zip_length f xs ys)

pub zip-at : (f : ℕ → ℕ → ℕ) (xs ys : List ℕ) (i : ℕ) → i < length xs → i < length ys → get_or (zip f xs ys) i 0 ≡ f (get_or xs i 0) (get_or ys i 0)
unfolding zip
zip-at f [] ys i lx ly = absurd (not-suc-le-zero lx)
zip-at f (x ∷ xs) [] i lx ly = absurd (not-suc-le-zero ly)
zip-at f (x ∷ xs) (y ∷ ys) zero lx ly = refl
zip-at f (x ∷ xs) (y ∷ ys) (suc i) lx ly = zip-at f xs ys i (le_of_suc-le-suc lx) (le_of_suc-le-suc ly)

-- a turn of a loop that stores f of the slice's own byte and the source's
pub zip_turn : (f : ℕ → ℕ → ℕ) (i v : ℕ) (old src now : List ℕ) → i < length old → i < length src → Filled i (zip f old src) old now
    → v ≡ f (get_or now i 0) (get_or src i 0) → Filled (i + 1) (zip f old src) old (set now i v)
zip_turn f i v old src now lo ls filled e =
    let same : length (zip f old src) ≡ length old = zip_length f old src in
    filled-turn i (zip f old src) old now same filled v lo
    (e ∙ ap (λ (x : ℕ). f x (get_or src i 0)) (filled-rest i (zip f old src) old now same filled lo) ∙ sym (zip-at f old src i lo ls))

pub zip-all : (f : ℕ → ℕ → ℕ) (i : ℕ) (old src now : List ℕ) → length old ≤ i → Filled i (zip f old src) old now → now ≡ zip f old src
zip-all f i old src now l filled = filled-all i (zip f old src) old now (zip_length f old src) filled l
