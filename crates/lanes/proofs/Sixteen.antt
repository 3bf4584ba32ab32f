-- Sixteen bytes at a time: sixteen bytes that are read, and the sums of four, at all their places. Assumes nothing.
use mathlib.Core.List.{List, [], ◌∷◌, ◌++◌}
use mathlib.Core.Path.{◌≡◌, refl, sym, ap, ◌∙◌}
use Prim.Native.Nat.{ℕ, zero, suc, ◌+◌, ◌-◌, ◌*◌, ◌/◌, ◌%◌, ◌≤◌, ◌<◌}
use native.Mathlib.Decide.{ℕ_discrete, dec_lt}
use native.Mathlib.Nat.{add-sub_cancel_left, zero-mul, one-mul}
use native.Mathlib.Omega.{arith}
use lib.Bits.{bit_xor}
use lib.ListN.{length, get_or, take, drop, set, replicate, length-set, length-append, length-drop, get_or-replicate, get_or-append}
use lib.Seq.{length-take-le, get_or-take, get_or-append-add, get_or-drop, get_or-set_same, get_or-set_other}
use borrow.Author.Tests.{lt-ltb, le-ltb}
use Rattle.gf256.proofs.Xor.{xors}
use Rattle.blocks.specs.Blocks.{part, set_part}
use Rattle.basics.specs.Lists.{list_of}
use Rattle.lanes.specs.Lanes.{lane, chosen}
use Rattle.blocks.proofs.Parts.{part_length, part_at, set-length, put_in, put-before}
use Rattle.blocks.proofs.Tabled.{list_of-is}

-- ---- reading

abbrev zeros : List ℕ
zeros = replicate 16 0

module _ (t : List ℕ) (a n : ℕ) where
  pub lane_in : (l : ℕ) → l < n → lane t a n l ≡ get_or t (a + l) 0
  unfolding lane
  lane_in l h = rw (lt-ltb l n h)

  lane-out : (l : ℕ) → n ≤ l → lane t a n l ≡ 0
  unfolding lane
  lane-out l h = rw (le-ltb l n h)

  pub read_some : n < 16 → a + n ≤ length t → part a n t ++ drop n zeros ≡ list_of 16 (lane t a n)
  read_some few fits =
      let head : length (part a n t) ≡ n = part_length a n t fits in
      let tail : length (drop n zeros) ≡ 16 - n = length-drop n zeros in
      list_of-is 16 (lane t a n) (part a n t ++ drop n zeros)
      (length-append (part a n t) (drop n zeros) ∙ omega (arith, head, tail)) (λ l h. at l h head (dec_lt l n))
    where
      at : (l : ℕ) → l < 16 → length (part a n t) ≡ n → Dec (l < n) → get_or (part a n t ++ drop n zeros) l 0 ≡ lane t a n l
      at l h head (yes i) =
          get_or-append (part a n t) (drop n zeros) 0 l (omega arith) ∙ part_at a n t l i ∙ sym (lane_in l i)
      at l h head (no o) =
          let e : length (part a n t) + (l - n) ≡ l = omega arith in
          let e' : n + (l - n) ≡ l = omega arith in
          ap (λ i. get_or (part a n t ++ drop n zeros) i 0) (sym e)
          ∙ get_or-append-add (part a n t) (drop n zeros) (l - n) 0
          ∙ get_or-drop n zeros (l - n) 0
          ∙ rw e' (get_or-replicate 16 l 0 0 h)
          ∙ sym (lane-out l (omega arith))

  pub read_all : 16 ≤ n → a + n ≤ length t → part a 16 t ≡ list_of 16 (lane t a n)
  read_all many fits =
      list_of-is 16 (lane t a n) (part a 16 t) (part_length a 16 t (omega arith))
      (λ l h. part_at a 16 t l h ∙ sym (lane_in l (omega arith)))

-- ---- putting

-- r from a on, as far as the list goes
abbrev pub PutIn : ℕ → List ℕ → List ℕ → List ℕ → Type 0
PutIn a r old now =
    (length now ≡ length old) × ((i : ℕ) → i < a → get_or now i 0 ≡ get_or old i 0) × ((l : ℕ) → l < 16 → a + l < length old → get_or now (a + l) 0 ≡ get_or r l 0)

pub put_is : (a k : ℕ) (p r old : List ℕ) → a + k ≤ length old → p ≡ take k r → k ≤ length r → ((l : ℕ) → l < 16 → a + l < length old → l < k)
    → PutIn a r old (set_part a (a + k - a) p old)
put_is a k p r old fits e long far =
    let many : length p ≡ k = ap length e ∙ length-take-le k r long in
    rw (add-sub_cancel_left a k) (
      set-length a k p old fits many,
      put-before a k p old fits many,
      λ l h i. put_in a k p old fits many l (far l h i) ∙ ap (λ d. get_or d l 0) e ∙ get_or-take k r l 0 (far l h i),
    )

-- ---- the sums

-- the bytes stored at place i of the sums from v on
unfoldable pub stored : ℕ → List ℕ → ℕ → List ℕ → List ℕ
stored v [] i s = s
stored v (e ∷ es) i s = stored (suc v) es i (set s (16 * v + i) e)

module _ (i : ℕ) (i16 : i < 16) where
  stored-length : (v : ℕ) (es s : List ℕ) → length (stored v es i s) ≡ length s
  unfolding stored
  stored-length v [] s = refl
  stored-length v (e ∷ es) s = stored-length (suc v) es (set s (16 * v + i) e) ∙ length-set s (16 * v + i) e

  stored-before : (v : ℕ) (es s : List ℕ) (u l : ℕ) → l < 16 → u < v → get_or (stored v es i s) (16 * u + l) 0 ≡ get_or s (16 * u + l) 0
  unfolding stored
  stored-before v [] s u l h uv = refl
  stored-before v (e ∷ es) s u l h uv =
      stored-before (suc v) es (set s (16 * v + i) e) u l h (omega arith) ∙ get_or-set_other s (16 * v + i) (16 * u + l) e 0 (omega arith)

  stored_other : (v : ℕ) (es s : List ℕ) (u l : ℕ) → l < 16 → (l ≡ i → ⊥) → get_or (stored v es i s) (16 * u + l) 0 ≡ get_or s (16 * u + l) 0
  unfolding stored
  stored_other v [] s u l h ne = refl
  stored_other v (e ∷ es) s u l h ne =
      stored_other (suc v) es (set s (16 * v + i) e) u l h ne ∙ get_or-set_other s (16 * v + i) (16 * u + l) e 0 (λ e. ne (omega arith))

  stored_here : (v : ℕ) (es s : List ℕ) (u : ℕ) → u < length es → 16 * (v + u) + i < length s
      → get_or (stored v es i s) (16 * (v + u) + i) 0 ≡ get_or es u 0
  unfolding stored
  stored_here v [] s u h fits = absurd (omega arith)
  stored_here v (e ∷ es) s zero h fits =
      let here : v + 0 ≡ v = omega arith in
      rw here (stored-before (suc v) es (set s (16 * v + i) e) v i i16 (omega arith) ∙ get_or-set_same s (16 * v + i) e 0 (omega arith))
  stored_here v (e ∷ es) s (suc u) h fits =
      let next : suc v + u ≡ v + suc u = omega arith in
      rw (← next) (stored_here (suc v) es (set s (16 * v + i) e) u (omega arith) (rw (next, length-set s (16 * v + i) e) fits))

-- the fifteen sums of four numbers
unfoldable pub fifteen : ℕ → ℕ → ℕ → ℕ → List ℕ
fifteen a b c d =
    a ∷ b ∷ bit_xor a b ∷ c ∷ bit_xor a c ∷ bit_xor b c ∷ bit_xor (bit_xor a b) c ∷ d ∷ bit_xor a d ∷ bit_xor b d ∷ bit_xor (bit_xor a b) d
    ∷ bit_xor c d ∷ bit_xor (bit_xor a c) d ∷ bit_xor (bit_xor b c) d ∷ bit_xor (bit_xor (bit_xor a b) c) d ∷ []

-- each of them is what the bits of its place choose
chosen-listed : (a b c d u : ℕ) → u < 16 → get_or (0 ∷ fifteen a b c d) u 0 ≡ chosen u a b c d
unfolding fifteen chosen
chosen-listed a b c d zero l = simp (zero-mul, xors)
chosen-listed a b c d (suc zero) l = simp (one-mul, zero-mul, xors)
chosen-listed a b c d (suc (suc zero)) l = simp (one-mul, zero-mul, xors)
chosen-listed a b c d (suc (suc (suc zero))) l = simp (one-mul, zero-mul, xors)
chosen-listed a b c d (suc (suc (suc (suc zero)))) l = simp (one-mul, zero-mul, xors)
chosen-listed a b c d (suc (suc (suc (suc (suc zero))))) l = simp (one-mul, zero-mul, xors)
chosen-listed a b c d (suc (suc (suc (suc (suc (suc zero)))))) l = simp (one-mul, zero-mul, xors)
chosen-listed a b c d (suc (suc (suc (suc (suc (suc (suc zero))))))) l = simp (one-mul, zero-mul, xors)
chosen-listed a b c d (suc (suc (suc (suc (suc (suc (suc (suc zero)))))))) l = simp (one-mul, zero-mul, xors)
chosen-listed a b c d (suc (suc (suc (suc (suc (suc (suc (suc (suc zero))))))))) l = simp (one-mul, zero-mul, xors)
chosen-listed a b c d (suc (suc (suc (suc (suc (suc (suc (suc (suc (suc zero)))))))))) l = simp (one-mul, zero-mul, xors)
chosen-listed a b c d (suc (suc (suc (suc (suc (suc (suc (suc (suc (suc (suc zero))))))))))) l = simp (one-mul, zero-mul, xors)
chosen-listed a b c d (suc (suc (suc (suc (suc (suc (suc (suc (suc (suc (suc (suc zero)))))))))))) l = simp (one-mul, zero-mul, xors)
chosen-listed a b c d (suc (suc (suc (suc (suc (suc (suc (suc (suc (suc (suc (suc (suc zero))))))))))))) l = simp (one-mul, zero-mul, xors)
chosen-listed a b c d (suc (suc (suc (suc (suc (suc (suc (suc (suc (suc (suc (suc (suc (suc zero)))))))))))))) l = simp (one-mul, zero-mul, xors)
chosen-listed a b c d (suc (suc (suc (suc (suc (suc (suc (suc (suc (suc (suc (suc (suc (suc (suc zero))))))))))))))) l = simp (one-mul, xors)
chosen-listed a b c d (suc (suc (suc (suc (suc (suc (suc (suc (suc (suc (suc (suc (suc (suc (suc (suc u)))))))))))))))) l = absurd (omega arith)

-- the sums of four bytes at each of sixteen places
module _ (w x y z : List ℕ) where
  abbrev pub sixteen : ℕ → ℕ
  sixteen i = chosen (i / 16) (get_or w (i % 16) 0) (get_or x (i % 16) 0) (get_or y (i % 16) 0) (get_or z (i % 16) 0)

  -- after i turns the sums of the first i places are there
  pub record Summing (i : ℕ) (s : List ℕ) : Type 0 where
    pub size : length s ≡ 256
    pub done : (u l : ℕ) → u < 16 → l < i → get_or s (16 * u + l) 0 ≡ chosen u (get_or w l 0) (get_or x l 0) (get_or y l 0) (get_or z l 0)

  pub summing-none : (s : List ℕ) → length s ≡ 256 → Summing 0 s
  summing-none s e = record { size = e; done = λ u l hu hl. absurd (omega arith) }

  pub summing-turn : (i : ℕ) (s : List ℕ) → i < 16 → Summing i s
      → Summing (i + 1) (stored 1 (fifteen (get_or w i 0) (get_or x i 0) (get_or y i 0) (get_or z i 0)) i (set s i 0))
  unfolding fifteen
  summing-turn i s l sum =
      record { size = stored-length i l 1 es (set s i 0) ∙ length-set s i 0 ∙ sum.size; done = λ u p hu hp. at u p hu hp (ℕ_discrete p i) }
    where
      es : List ℕ
      es = fifteen (get_or w i 0) (get_or x i 0) (get_or y i 0) (get_or z i 0)

      here : (u : ℕ) → u < 16 → get_or (stored 1 es i (set s i 0)) (16 * u + i) 0 ≡ get_or (0 ∷ es) u 0
      here zero hu =
          let e : 16 * 0 + i ≡ i = omega arith in
          stored-before i l 1 es (set s i 0) 0 i l (omega arith) ∙ rw e (get_or-set_same s i 0 0 (omega (arith, sum.size)))
      here (suc u) hu =
          let e : 1 + u ≡ suc u = omega arith in
          rw (← e) (stored_here i l 1 es (set s i 0) u (omega arith) (omega (arith, sum.size, length-set s i 0)))

      at : (u p : ℕ) → u < 16 → p < i + 1 → Dec (p ≡ i)
          → get_or (stored 1 es i (set s i 0)) (16 * u + p) 0 ≡ chosen u (get_or w p 0) (get_or x p 0) (get_or y p 0) (get_or z p 0)
      at u p hu hp (yes e) = rw e (here u hu ∙ chosen-listed (get_or w i 0) (get_or x i 0) (get_or y i 0) (get_or z i 0) u hu)
      at u p hu hp (no n) =
          stored_other i l 1 es (set s i 0) u p (omega arith) n ∙ get_or-set_other s i (16 * u + p) 0 0 (omega arith) ∙ sum.done u p hu (omega arith)

  pub summing-all : (s : List ℕ) → Summing 16 s → s ≡ list_of 256 sixteen
  summing-all s sum =
      list_of-is 256 sixteen s sum.size
      (λ p l.
      let e : 16 * (p / 16) + p % 16 ≡ p = omega arith in
      rw e at (sum.done (p / 16) (p % 16) (omega arith) (omega arith)))
