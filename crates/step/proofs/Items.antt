-- Records of a table, counted from 1; the first n items of an array, each seen through f, as such a table. Assumes nothing.
use mathlib.Core.Path.{◌≡◌, refl, sym, ap, ◌∙◌}
use mathlib.Core.List.{List, map}
use Prim.Native.Nat.{ℕ, zero, suc, ◌-◌, ◌≤◌, ◌<◌}
use native.Mathlib.Decide.{ℕ_discrete}
use native.Mathlib.Omega.{arith}
use lib.ListN.{length, get_or, set, take, replicate, length-set, length-map, length-replicate, get_or-map, get_or-eq_default, get_or-replicate}
use lib.Seq.{ext_get_or, get_or-set_same, get_or-set_other, set_out}
use Rattle.std.proofs.lemmas.List.{get_or_default, get_or-take, length-take-le, map-set}
use Rattle.basics.specs.Lists.{list_of}
use Rattle.basics.proofs.Lists.{length-list_of, get_or-list_of}
use Rattle.basics.specs.Lists.{element_at, set_at}

module _ {A : Type 0} where
  pub element-in : (l : List A) (j : ℕ) (d e : A) → 1 ≤ j → j ≤ length l → get_or l (j - 1) e ≡ element_at d l j
  unfolding element_at
  element-in l zero d e h b = absurd (omega arith)
  element-in l (suc j) d e h b = let q : suc j - 1 ≡ j = omega arith in rw q (get_or_default l j e d (omega arith))

  pub element-past : (l : List A) (j : ℕ) (d : A) → (1 ≤ j → length l < j) → d ≡ element_at d l j
  unfolding element_at
  element-past l zero d h = refl
  element-past l (suc j) d h = sym (get_or-eq_default l d (omega (arith, h (omega arith))))

  pub set-in : (l : List A) (j : ℕ) (x : A) → 1 ≤ j → set l (j - 1) x ≡ set_at l j x
  unfolding set_at
  set-in l zero x h = absurd (omega arith)
  set-in l (suc j) x h = let q : suc j - 1 ≡ j = omega arith in rw q refl

  pub set-past : (l : List A) (j : ℕ) (x : A) → (1 ≤ j → length l < j) → l ≡ set_at l j x
  unfolding set_at
  set-past l zero x h = refl
  set-past l (suc j) x h = sym (set_out l j x (omega (arith, h (omega arith))))

module _ {A B : Type 0} (f : A → B) where
  pub map-element : (l : List A) (j : ℕ) (d : A) → f (element_at d l j) ≡ element_at (f d) (map f l) j
  unfolding element_at
  map-element l zero d = refl
  map-element l (suc j) d = sym (get_or-map f l j d)

  pub map-put : (l : List A) (j : ℕ) (x : A) → map f (set_at l j x) ≡ set_at (map f l) j (f x)
  unfolding set_at
  map-put l zero x = refl
  map-put l (suc j) x = map-set f l j x

-- none is set at 0 or past the last
pub set_past : {A : Type 0} (l : List A) (j : ℕ) (x : A) → length l < j → set_at l j x ≡ l
unfolding set_at
set_past l zero x h = refl
set_past l (suc j) x h = set_out l j x (omega arith)

pub set-none : {A : Type 0} (l : List A) (j : ℕ) (x : A) → j < 1 → set_at l j x ≡ l
unfolding set_at
set-none l zero x h = refl
set-none l (suc j) x h = absurd (omega arith)

module _ {R A : Type 0} (f : R → A) (blank : R) where
  abbrev pub seen : ℕ → List R → List A
  seen n xs = list_of n (λ i. f (get_or xs i blank))

  pub seen-count : (n : ℕ) (xs : List R) → length (seen n xs) ≡ n
  seen-count n xs = length-list_of n (λ i. f (get_or xs i blank))

  -- they are the first n, each seen through f
  pub seen-take : (n : ℕ) (xs : List R) → n ≤ length xs → seen n xs ≡ map f (take n xs)
  seen-take n xs h =
      ext_get_or (f blank) (seen n xs) (map f (take n xs)) (seen-count n xs ∙ sym (length-map (take n xs) f ∙ length-take-le n xs h))
      (λ i l. let within : i < n = omega (arith, seen-count n xs, l) in
      get_or-list_of n (λ k. f (get_or xs k blank)) i (f blank) within
      ∙ sym (get_or-map f (take n xs) i blank ∙ ap f (get_or-take n xs i blank within)))

  pub seen_at : (n : ℕ) (xs : List R) → n ≤ length xs → (j : ℕ) (d : R) (e : A) {x : R} → f d ≡ e → x ≡ element_at d (take n xs) j → f x ≡ element_at e (seen n xs) j
  seen_at n xs h j d e fresh is =
      ap f is ∙ map-element f (take n xs) j d ∙ ap (λ k. element_at k (map f (take n xs)) j) fresh ∙ ap (λ l. element_at e l j) (sym (seen-take n xs h))

  pub seen-set : (n : ℕ) (xs : List R) (j : ℕ) (x : R) → 1 ≤ j → j ≤ n → j - 1 < length xs
      → seen n (set xs (j - 1) x) ≡ set_at (seen n xs) j (f x)
  unfolding set_at
  seen-set n xs zero x a b h = absurd (omega arith)
  seen-set n xs (suc j) x a b h =
      let e : suc j - 1 ≡ j = omega arith in
      rw e
      (ext_get_or (f x) (seen n (set xs j x)) (set (seen n xs) j (f x))
      (seen-count n (set xs j x) ∙ sym (length-set (seen n xs) j (f x) ∙ seen-count n xs))
      (λ p l. let q : p < n = omega (arith, seen-count n (set xs j x)) in
      get_or-list_of n (λ i. f (get_or (set xs j x) i blank)) p (f x) q ∙ at p q (ℕ_discrete p j)))
    where
      at : (p : ℕ) → p < n → Dec (p ≡ j) → f (get_or (set xs j x) p blank) ≡ get_or (set (seen n xs) j (f x)) p (f x)
      at p l (yes e) =
          let k : j < length xs = omega arith in
          rw e (ap f (get_or-set_same xs j x blank k) ∙ sym (get_or-set_same (seen n xs) j (f x) (f x) (omega (arith, seen-count n xs))))
      at p l (no ne) =
          ap f (get_or-set_other xs j p x blank ne)
          ∙ sym (get_or-set_other (seen n xs) j p (f x) (f x) ne ∙ get_or-list_of n (λ i. f (get_or xs i blank)) p (f x) l)

  -- every item the same
  pub seen_same : (n w : ℕ) (x : R) → n ≤ w → seen n (replicate w x) ≡ replicate n (f x)
  seen_same n w x h =
      ext_get_or (f x) (seen n (replicate w x)) (replicate n (f x)) (seen-count n (replicate w x) ∙ sym (length-replicate n (f x)))
      (λ p l. let q : p < n = omega (arith, seen-count n (replicate w x)) in
      get_or-list_of n (λ i. f (get_or (replicate w x) i blank)) p (f x) q
      ∙ ap f (get_or-replicate w p x blank (omega arith))
      ∙ sym (get_or-replicate n p (f x) (f x) q))
