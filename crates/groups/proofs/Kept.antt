-- Sizes as they are kept: one size at a time; and sizes that are kept as others are no stripe's, nor are the others. Assumes nothing.
use mathlib.Core.Path.{◌≡◌, refl, ◌∙◌}
use mathlib.Core.Bool.{Bool, true, false, cond, ◌&&◌}
use mathlib.Core.List.{List, [], ◌∷◌, ◌++◌}
use Prim.Native.Nat.{ℕ, ◌+◌}
use native.Mathlib.Omega.{arith}
use lib.Dec.{eqb, leb}
use lib.ListN.{length}
use borrow.Author.Tests.{leb-true, leb-false, lt-leb, ne_eqb}
use Rattle.basics.specs.Lists.{every_of}
use Rattle.groups.specs.Groups.{group_limit, total, groups_fit}
use Rattle.groups.specs.View.{kept, impossible, KeptFits}

abbrev each-one : List ℕ → Bool
each-one xs = every_of (leb 1) xs

total-snoc : (xs : List ℕ) (x : ℕ) → total (xs ++ (x ∷ [])) ≡ total xs + x
unfolding total
total-snoc [] x = omega arith
total-snoc (y ∷ xs) x = let e = total-snoc xs x in omega arith

each_snoc : (xs : List ℕ) (x : ℕ) → each-one (xs ++ (x ∷ [])) ≡ (each-one xs && leb 1 x)
unfolding every_of
each_snoc [] x = by (leb 1 x)
  where
    by : (b : Bool) → (b && true) ≡ (true && b)
    by true = refl
    by false = refl
each_snoc (y ∷ xs) x = rw (each_snoc xs x) (assoc (leb 1 y) (each-one xs) (leb 1 x))
  where
    assoc : (a b c : Bool) → (a && (b && c)) ≡ ((a && b) && c)
    assoc true b c = refl
    assoc false b c = refl

-- one size more
pub kept-snoc : (xs : List ℕ) (x : ℕ)
    → kept (xs ++ (x ∷ [])) ≡ cond (leb 1 x && leb (total (kept xs) + x) 8) (kept xs ++ (x ∷ [])) impossible
unfolding kept total
kept-snoc xs x = rw (each_snoc xs x, total-snoc xs x) (by (each-one xs) (leb (total xs) 8) (leb 1 x) refl refl)
  where
    by : (e t o : Bool) → leb (total xs) 8 ≡ t → leb 1 x ≡ o
        → cond ((e && o) && leb (total xs + x) 8) (xs ++ (x ∷ [])) impossible
        ≡ cond (o && leb (total (cond (e && t) xs impossible) + x) 8) (cond (e && t) xs impossible ++ (x ∷ [])) impossible
    by true true true p q = refl
    by true true false p q = refl
    by true false true p q =
        let a = leb-false (total xs) 8 p in
        let b = leb-true 1 x q in
        rw (lt-leb (total xs + x) 8 (omega arith), lt-leb (8 + x) 8 (omega arith))
    by true false false p q = refl
    by false true true p q = let b = leb-true 1 x q in rw (lt-leb (8 + x) 8 (omega arith))
    by false true false p q = refl
    by false false true p q = let b = leb-true 1 x q in rw (lt-leb (8 + x) 8 (omega arith))
    by false false false p q = refl

pub kept-fits : KeptFits
unfolding kept groups_fit every_of
kept-fits r sizes few = by (each-one sizes) (leb (total sizes) 8) refl refl
  where
    impossible-fits : groups_fit r impossible ≡ false
    impossible-fits = unfold groups_fit in refl

    no : (a b d : Bool) → false ≡ (a && (b && (d && false)))
    no true true true = refl
    no true true false = refl
    no true false d = refl
    no false b d = refl

    by : (e t : Bool) → each-one sizes ≡ e → leb (total sizes) 8 ≡ t
        → groups_fit r (cond (e && t) sizes impossible)
        ≡ (leb 1 (length sizes) && (leb (length sizes) group_limit && (e && eqb (total sizes) r)))
    by true true p q = rw p
    by true false p q =
        let a = leb-false (total sizes) 8 q in
        impossible-fits ∙ rw (ne_eqb (total sizes) r (λ h. omega arith)) (no (leb 1 (length sizes)) (leb (length sizes) group_limit) true)
    by false t p q = impossible-fits ∙ none (leb 1 (length sizes)) (leb (length sizes) group_limit)
      where
        none : (a b : Bool) → false ≡ (a && (b && false))
        none true true = refl
        none true false = refl
        none false b = refl
