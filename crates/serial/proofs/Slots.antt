-- A list as its count and its slots, blank past the count: what is in a slot, and a buffer that is filled slot by slot. One law for the lists of every
-- kind of item. Assumes nothing.
use mathlib.Core.Path.{◌≡◌, refl, sym, ap, ◌∙◌}
use mathlib.Core.List.{List, [], ◌∷◌, ◌++◌}
use Prim.Native.Nat.{ℕ, ◌+◌, ◌*◌, ◌≤◌, ◌<◌}
use native.Mathlib.Nat.{zero-mul, suc-mul}
use native.Mathlib.Numerals.{add-one}
use native.Mathlib.Omega.{arith}
use lib.ListN.{length, get_or, get_or-eq_default}
use Rattle.basics.specs.Lists.{list_of}
use Rattle.basics.proofs.Lists.{length-list_of, get_or-list_of}
use Rattle.octets.specs.Octets.{joined, Put}
use Rattle.octets.proofs.Filling.{Filled, fill-item, full}

-- an item below the count, the blank past it
module _ {A : Type 0} (n : ℕ) (g : ℕ → A) (d : A) (i : ℕ) where
  pub slot-below : i < n → g i ≡ get_or (list_of n g) i d
  slot-below h = sym (get_or-list_of n g i d h)

  pub slot-past : n ≤ i → d ≡ get_or (list_of n g) i d
  slot-past h = sym (get_or-eq_default (list_of n g) d (omega (arith, length-list_of n g)))

module _ {A : Type 0} (w limit : ℕ) (bytes : A → List ℕ) (d : A) (xs : List A) where
  -- the count and the first i slots are in the buffer
  pub record Slots (i : ℕ) (out : List ℕ) : Type 0 where
    pub filled : Filled (1 + limit * w) (1 + i * w) ((length xs ∷ []) ++ joined i (λ j. bytes (get_or xs j d))) out
    pub few : i ≤ limit

  pub slots-none : (count : ℕ) (rest : List ℕ) → length xs ≡ count → length rest ≡ limit * w → Slots 0 (count ∷ rest)
  unfolding joined
  slots-none count rest e l = record { filled = rw (zero-mul w, e) (record { begins = refl; long = omega arith }); few = omega arith }

  pub slots-more : {i : ℕ} {out v new : List ℕ} → Slots i out → Put out (1 + i * w) v new → i < limit → v ≡ bytes (get_or xs i d)
      → length (bytes (get_or xs i d)) ≡ w → Slots (i + 1) new
  slots-more {i} s p l e long =
      let next : 1 + i * w + w ≡ 1 + (i + 1) * w = rw (add-one i) (omega (arith, suc-mul i w)) in
      record { filled = fill-item w (1 + (i + 1) * w) i (length xs ∷ []) (λ j. bytes (get_or xs j d)) s.filled p e long next; few = omega arith }

  pub slots-all : {i : ℕ} {out : List ℕ} → Slots i out → limit ≤ i → out ≡ length xs ∷ joined limit (λ j. bytes (get_or xs j d))
  slots-all {i} s l =
      let e : i ≡ limit = omega (arith, s.few) in
      full s.filled (rw e) ∙ ap (λ n. length xs ∷ joined n (λ j. bytes (get_or xs j d))) e
