-- The laws of `part` and `set_part`, and of the blocks of a table: what is put is read back, what does not overlap is as it was. Assumes nothing.
use mathlib.Core.Path.{◌≡◌, refl, sym, ap, ◌∙◌}
use mathlib.Core.Logic.{⊎_elim, ◌⊎◌, inl, inr}
use mathlib.Core.List.{List, ◌++◌, append_assoc}
use Prim.Native.Nat.{ℕ, zero, suc, ◌+◌, ◌-◌, ◌*◌, ◌≤◌, ◌<◌}
use native.Mathlib.Nat.{add-sub_cancel_left, mul-le-mul_right, suc-mul}
use native.Mathlib.Omega.{arith}
use lib.ListN.{length, take, drop, get_or, length-append, length-drop, take-append-drop}
use lib.Seq.{length-take-le, take_at, drop_at, take-take, drop-drop, take-add, get_or-take, get_or-drop}
use mir.Syntax.{w8}
use mir.Val.{Fits}
use Rattle.blocks.specs.Blocks.{part, set_part, block, set_block, byte_at, Bytes}

pub part_length : (a n : ℕ) (t : List ℕ) → a + n ≤ length t → length (part a n t) ≡ n
unfolding part
part_length a n t fits = length-take-le n (drop a t) (rw length-drop (omega arith))

-- a part as the code lends it, from a up to a + n
pub lent_length : (a n : ℕ) (t : List ℕ) → a + n ≤ length t → length (take (a + n - a) (drop a t)) ≡ n
unfolding part
lent_length a n t fits = rw (add-sub_cancel_left a n) (part_length a n t fits)

pub part_at : (a n : ℕ) (t : List ℕ) (i : ℕ) → i < n → get_or (part a n t) i 0 ≡ get_or t (a + i) 0
unfolding part
part_at a n t i l = rw (get_or-take, get_or-drop)

-- a part that is put back as it was changes nothing
pub set-get : (a n : ℕ) (t : List ℕ) → set_part a n (part a n t) t ≡ t
unfolding set_part part
set-get a n t = ap (λ (r : List ℕ). take a t ++ r) (take-append-drop n (drop a t)) ∙ take-append-drop a t

-- ---- p put in the place of the n bytes from a on
module _ (a n : ℕ) (p t : List ℕ) (fits : a + n ≤ length t) (many : length p ≡ n) where
  before : length (take a t) ≡ a
  before = length-take-le a t (omega arith)

  pub set-length : length (set_part a n p t) ≡ length t
  unfolding set_part
  set-length = simp (length-append, before, length-drop) (omega arith)

  pub get_set_same : part a n (set_part a n p t) ≡ p
  unfolding set_part part
  get_set_same = ap (take n) (drop_at (take a t) (p ++ drop n (drop a t)) a before) ∙ take_at p (drop n (drop a t)) n many

  -- all up to the part's end, and all after it
  pub take-set : take (a + n) (set_part a n p t) ≡ take a t ++ p
  unfolding set_part
  take-set =
      rw (← append_assoc (take a t) p (drop n (drop a t)))
      (take_at (take a t ++ p) (drop n (drop a t)) (a + n) (rw (length-append, before, many)))

  pub drop-set : drop (a + n) (set_part a n p t) ≡ drop (a + n) t
  unfolding set_part
  drop-set =
      rw (← drop-drop n a (take a t ++ (p ++ drop n (drop a t))), ← drop-drop n a t, drop_at (take a t) (p ++ drop n (drop a t)) a before)
      (drop_at p (drop n (drop a t)) n many)

-- a part is the end of all up to it
part-take : (a n : ℕ) (t : List ℕ) → a ≤ length t → part a n t ≡ drop a (take (a + n) t)
unfolding part
part-take a n t l = rw (take-add a n t) (sym (drop_at (take a t) (take n (drop a t)) a (length-take-le a t l)))

-- another part, of m bytes from c on, that lies before it or after it
module _ (a n : ℕ) (p t : List ℕ) (fits : a + n ≤ length t) (many : length p ≡ n) (c m : ℕ) where
  pub get-set-before : c + m ≤ a → part c m (set_part a n p t) ≡ part c m t
  unfolding set_part
  get-set-before l =
      let head : take a (set_part a n p t) ≡ take a t = take_at (take a t) (p ++ drop n (drop a t)) a (length-take-le a t (omega arith)) in
      let same : length (set_part a n p t) ≡ length t = set-length a n p t fits many in
      part-take c m (set_part a n p t) (omega arith)
      ∙ ap (drop c) (sym (take-take (c + m) a (set_part a n p t) l) ∙ ap (take (c + m)) head ∙ take-take (c + m) a t l)
      ∙ sym (part-take c m t (omega arith))

  pub get-set-after : a + n ≤ c → part c m (set_part a n p t) ≡ part c m t
  unfolding part
  get-set-after l =
      let e : a + n + (c - (a + n)) ≡ c = omega arith in
      let later : (s : List ℕ) → drop (c - (a + n)) (drop (a + n) s) ≡ drop c s = λ s. drop-drop (c - (a + n)) (a + n) s ∙ ap (λ (k : ℕ). drop k s) e in
      ap (take m) (sym (later (set_part a n p t)) ∙ ap (drop (c - (a + n))) (drop-set a n p t fits many) ∙ later t)

-- ---- bytes of a list that has p in the place of its n bytes from a on

-- a byte as a part
alone : (i : ℕ) (t : List ℕ) → get_or t i 0 ≡ get_or (part i 1 t) 0 0
alone i t = let e : i + 0 ≡ i = omega arith in sym (part_at i 1 t 0 (omega arith) ∙ ap (λ k. get_or t k 0) e)

module _ (a n : ℕ) (p t : List ℕ) (fits : a + n ≤ length t) (many : length p ≡ n) where
  pub put_in : (l : ℕ) → l < n → get_or (set_part a n p t) (a + l) 0 ≡ get_or p l 0
  put_in l h = sym (part_at a n (set_part a n p t) l h) ∙ ap (λ d. get_or d l 0) (get_set_same a n p t fits many)

  pub put-before : (i : ℕ) → i < a → get_or (set_part a n p t) i 0 ≡ get_or t i 0
  put-before i h = alone i (set_part a n p t) ∙ ap (λ d. get_or d 0 0) (get-set-before a n p t fits many i 1 (omega arith)) ∙ sym (alone i t)

  pub put-after : (i : ℕ) → a + n ≤ i → get_or (set_part a n p t) i 0 ≡ get_or t i 0
  put-after i h = alone i (set_part a n p t) ∙ ap (λ d. get_or d 0 0) (get-set-after a n p t fits many i 1 (omega arith)) ∙ sym (alone i t)

-- ---- blocks of b bytes, numbered from 1

-- block j ends where the next begins
pub block-end : (j b : ℕ) → 1 ≤ j → j * b ≡ (j - 1) * b + b
block-end j b l = let e : suc (j - 1) ≡ j = omega arith in ap (λ (i : ℕ). i * b) (sym e) ∙ suc-mul (j - 1) b

-- a block ends before a later one begins
pub block_apart : (i j b : ℕ) → 1 ≤ i → i < j → (i - 1) * b + b ≤ (j - 1) * b
block_apart i j b l h =
    let h' : i ≤ j - 1 = omega arith in
    omega (arith, block-end i b l, mul-le-mul_right b h')

-- a block of a table of n blocks ends within it
pub block-fits : (j n b : ℕ) → 1 ≤ j → j ≤ n → (j - 1) * b + b ≤ n * b
block-fits j n b l h = omega (arith, block-end j b l, mul-le-mul_right b h)

pub block_at : (b j : ℕ) (t : List ℕ) (p : ℕ) → p < b → get_or (block b j t) p 0 ≡ byte_at b t j p
unfolding byte_at
block_at b j t p l = part_at ((j - 1) * b) b t p l

either : (i j : ℕ) → (i ≡ j → ⊥) → (i < j) ⊎ (j < i)
either zero zero ne = absurd (ne refl)
either zero (suc j) ne = inl (omega arith)
either (suc i) zero ne = inr (omega arith)
either (suc i) (suc j) ne =
    ⊎_elim (λ (l : i < j). inl (omega arith)) (λ (l : j < i). inr (omega arith)) (either i j (λ e. ne (ap suc e)))

-- another block is as it was
pub block-other : (b i j : ℕ) (p t : List ℕ) → 1 ≤ i → 1 ≤ j → (j - 1) * b + b ≤ length t → length p ≡ b → (i ≡ j → ⊥)
    → block b i (set_block b j p t) ≡ block b i t
block-other b i j p t li lj fits many ne =
    ⊎_elim (λ (l : i < j). get-set-before ((j - 1) * b) b p t fits many ((i - 1) * b) b (block_apart i j b li l))
    (λ (l : j < i). get-set-after ((j - 1) * b) b p t fits many ((i - 1) * b) b (block_apart j i b lj l))
    (either i j ne)

-- ---- what is known of a slice of u8

pub bytes_of : (t : List ℕ) → ((q : ℕ) → Fits w8 (get_or t q 0)) → Bytes t
bytes_of t f = record { small = λ q. (f q).fits }
