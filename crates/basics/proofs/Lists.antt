-- Lists by the numbers of their elements (`list_of`, `element_at`), tests of all and of some, and f of all elements but the first k. Assumes nothing.
use mathlib.Core.Path.{◌≡◌, refl, sym, ap, ◌∙◌}
use mathlib.Core.Logic.{◌⊎◌, inl, inr}
use mathlib.Core.Bool.{Bool, true, false, cond, ◌&&◌}
use mathlib.Core.List.{List, [], ◌∷◌, ◌++◌, map}
use Prim.Native.Nat.{ℕ, zero, suc, ◌≤◌, ◌<◌}
use native.Mathlib.Nat.{le_of_suc-le-suc, eq-or-lt_of_le}
use native.Mathlib.Omega.{arith}
use lib.Dec.{leb, ltb}
use lib.ListN.{length, get_or, take, length-append, length-map, length-take, length-drop, get_or-append, get_or-map, get_or-eq_default}
use lib.ListN as ListN
use lib.Seq.{get_or_at}
use borrow.Author.Tests.{leb-true, leb-false, ltb-true, ltb-false, le-ltb}
use Rattle.basics.specs.Lists.{list_of, element_at, every_of, some_of}
use Rattle.basics.proofs.Tests.{clash, and_both, or-one, or-none}

---- a list by its entries

pub length-list_of : {A : Type 0} (m : ℕ) (f : ℕ → A) → length (list_of m f) ≡ m
unfolding list_of
length-list_of zero f = refl
length-list_of (suc m) f = length-append (list_of m f) (f m ∷ []) ∙ omega (arith, length-list_of m f)

pub get_or-list_of : {A : Type 0} (m : ℕ) (f : ℕ → A) (i : ℕ) (d : A) → i < m → get_or (list_of m f) i d ≡ f i
unfolding list_of
get_or-list_of zero f i d l = absurd (omega arith)
get_or-list_of (suc m) f i d l = go (eq-or-lt_of_le (le_of_suc-le-suc l)) (get_or-list_of m f i d)
  where
    go : (i ≡ m) ⊎ (i < m) → (i < m → get_or (list_of m f) i d ≡ f i) → get_or (list_of m f ++ (f m ∷ [])) i d ≡ f i
    go (inl e) ih = get_or_at (list_of m f) (f m) [] d i (length-list_of m f ∙ sym e) ∙ ap f (sym e)
    go (inr l') ih = get_or-append (list_of m f) (f m ∷ []) d i (omega (arith, length-list_of m f)) ∙ ih l'

pub list_of-cong : {A : Type 0} (m : ℕ) (f g : ℕ → A) → ((i : ℕ) → i < m → f i ≡ g i) → list_of m f ≡ list_of m g
unfolding list_of
list_of-cong zero f g e = refl
list_of-cong (suc m) f g e = rw (list_of-cong m f g (λ i l. e i (omega arith)), e m (omega arith))

---- elements by their numbers

-- no element has a number past the last
pub element-past : {A : Type 0} (d : A) (l : List A) (j : ℕ) → length l < j → element_at d l j ≡ d
unfolding element_at
element-past d l zero h = refl
element-past d l (suc j) h = get_or-eq_default l d (omega arith)

module _ {E : Type 0} (d : E) where
  pub every-at : (p : E → Bool) (l : List E) → every_of p l ≡ true → (j : ℕ) → 1 ≤ j → j ≤ length l → p (element_at d l j) ≡ true
  unfolding every_of element_at
  every-at p [] e j a b = absurd (omega arith)
  every-at p (x ∷ l) e zero a b = absurd (omega arith)
  every-at p (x ∷ l) e (suc zero) a b = (and_both (p x) (every_of p l) e).0
  every-at p (x ∷ l) e (suc (suc j)) a b = every-at p l (and_both (p x) (every_of p l) e).1 (suc j) (omega arith) (omega arith)

  pub none-at : (p : E → Bool) → p d ≡ false → (l : List E) → some_of p l ≡ false → (j : ℕ) → p (element_at d l j) ≡ false
  unfolding some_of element_at
  none-at p f l e zero = f
  none-at p f [] e (suc j) = f
  none-at p f (x ∷ l) e (suc zero) = (or-none (p x) (some_of p l) e).0
  none-at p f (x ∷ l) e (suc (suc j)) = none-at p f l (or-none (p x) (some_of p l) e).1 (suc j)

  pub some_at : (p : E → Bool) (l : List E) → some_of p l ≡ true → (j : ℕ) × (p (element_at d l j) ≡ true)
  unfolding some_of element_at
  some_at p [] e = clash e refl
  some_at p (x ∷ l) e = go (or-one (p x) (some_of p l) e) (some_at p l)
    where
      go : (p x ≡ true) ⊎ (some_of p l ≡ true) → (some_of p l ≡ true → (j : ℕ) × (p (element_at d l j) ≡ true)) → (j : ℕ) × (p (element_at d (x ∷ l) j) ≡ true)
      go (inl t) later = (1, t)
      go (inr t) later = next (later t).0 (later t).1
        where
          next : (j : ℕ) → p (element_at d l j) ≡ true → (j : ℕ) × (p (element_at d (x ∷ l) j) ≡ true)
          next zero q = (0, q)
          next (suc j) q = (suc (suc j), q)

  module _ (f : E → E) where
    pub map_at : f d ≡ d → (l : List E) (j : ℕ) → element_at d (map f l) j ≡ f (element_at d l j)
    unfolding element_at
    map_at e l zero = sym e
    map_at e l (suc j) = ap (get_or (map f l) j) (sym e) ∙ get_or-map f l j d

    ---- f of all elements but the first k
    abbrev pub map_from : ℕ → List E → List E
    map_from k l = take k l ++ map f (ListN.drop k l)

    pub length_from : (k : ℕ) (l : List E) → length (map_from k l) ≡ length l
    length_from k l = simp (length-append, length-map, length-take, length-drop) (omega arith)

    before : (k : ℕ) (l : List E) (j : ℕ) → j < k → get_or (map_from k l) j d ≡ get_or l j d
    before zero l j h = absurd (omega arith)
    before (suc k) [] j h = refl
    before (suc k) (x ∷ l) zero h = refl
    before (suc k) (x ∷ l) (suc j) h = before k l j (omega arith)

    after : (k : ℕ) (l : List E) (j : ℕ) → k ≤ j → j < length l → get_or (map_from k l) j d ≡ f (get_or l j d)
    after k [] j a b = absurd (omega arith)
    after zero (x ∷ l) zero a b = refl
    after zero (x ∷ l) (suc j) a b = after zero l j (omega arith) (omega arith)
    after (suc k) (x ∷ l) zero a b = absurd (omega arith)
    after (suc k) (x ∷ l) (suc j) a b = after k l j (omega arith) (omega arith)

    pub from_at : (k n : ℕ) (l : List E) → length l ≡ n → (j : ℕ) →
        element_at d (map_from k l) j ≡ cond (ltb k j && leb j n) (f (element_at d l j)) (element_at d l j)
    unfolding element_at
    from_at k n l e zero = rw (le-ltb k 0 (omega arith))
    from_at k n l e (suc j) = go (ltb k (suc j)) (leb (suc j) n) refl refl
      where
        go : (s t : Bool) → ltb k (suc j) ≡ s → leb (suc j) n ≡ t → get_or (map_from k l) j d ≡ cond (s && t) (f (get_or l j d)) (get_or l j d)
        go false t p q = before k l j (ltb-false k (suc j) p)
        go true true p q = let a = ltb-true k (suc j) p in let b = leb-true (suc j) n q in after k l j (omega arith) (omega arith)
        go true false p q =
            let b = leb-false (suc j) n q in
            get_or-eq_default (map_from k l) d (rw (length_from k l) (omega arith)) ∙ sym (get_or-eq_default l d (omega arith))
