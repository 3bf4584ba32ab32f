-- A table of which one stripe's part has changed: that part, and those of the other stripes. Assumes nothing.
use mathlib.Core.Bool.{true}
use mathlib.Core.List.{List, ◌++◌}
use mathlib.Core.Path.{◌≡◌, sym, ap, ◌∙◌}
use Prim.Native.Nat.{ℕ, ◌+◌, ◌-◌, ◌*◌, ◌≤◌, ◌<◌}
use native.Mathlib.Decide.{dec_lt}
use native.Mathlib.Nat.{add-sub_cancel_left, mul-le-mul_right, suc-mul}
use native.Mathlib.Omega.{arith}
use lib.ListN.{length, take, drop, length-drop, take-append-drop}
use lib.Seq.{length-take-le, take_at, drop_at, take-take, drop-drop, take-add}
use borrow.Author.Tests.{lt-ltb, le-leb}
use Rattle.parts.specs.Inside.{Only, part_in}
use Rattle.volume.specs.Volume.{stripe_limit}
use Rattle.tables.specs.Parts.{has_part, part_from, part_most, part_of, part_to}
use Rattle.volumeshelf.specs.Volumes.{of_stripe}

-- ---- a list with others in the place of its n elements from a on
module _ {X : Type 0} (a n : ℕ) (xs xs' : List X) (fits : a + n ≤ length xs) (same : length xs' ≡ length xs)
    (only : xs' ≡ take a xs ++ (take n (drop a xs') ++ drop n (drop a xs))) where
  many : length (take n (drop a xs')) ≡ n
  many = length-take-le n (drop a xs') (rw length-drop (omega (arith, same, fits)))

  front : length (take a xs) ≡ a
  front = length-take-le a xs (omega (arith, fits))

  heads : take a xs' ≡ take a xs
  heads = ap (take a) only ∙ take_at (take a xs) (take n (drop a xs') ++ drop n (drop a xs)) a front

  tails : drop (a + n) xs' ≡ drop (a + n) xs
  tails =
      sym (drop-drop n a xs') ∙ ap (drop n) (ap (drop a) only ∙ drop_at (take a xs) (take n (drop a xs') ++ drop n (drop a xs)) a front)
      ∙ drop_at (take n (drop a xs')) (drop n (drop a xs)) n many ∙ drop-drop n a xs

  -- m elements from c on that lie before them or after them
  pub part-before : (c m : ℕ) → c + m ≤ a → take m (drop c xs') ≡ take m (drop c xs)
  part-before c m l =
      part-take xs' (omega (arith, same, fits, l)) ∙ ap (drop c) (sym (take-take (c + m) a xs' l) ∙ ap (take (c + m)) heads ∙ take-take (c + m) a xs l)
      ∙ sym (part-take xs (omega (arith, fits, l)))
    where
      part-take : (t : List X) → c ≤ length t → take m (drop c t) ≡ drop c (take (c + m) t)
      part-take t h = rw (take-add c m t) (sym (drop_at (take c t) (take m (drop c t)) c (length-take-le c t h)))

  pub part-after : (c m : ℕ) → a + n ≤ c → take m (drop c xs') ≡ take m (drop c xs)
  part-after c m l = ap (take m) (sym (later xs') ∙ ap (drop (c - (a + n))) tails ∙ later xs)
    where
      sum : a + n + (c - (a + n)) ≡ c
      sum = omega (arith, l)

      later : (t : List X) → drop (c - (a + n)) (drop (a + n) t) ≡ drop c t
      later t = drop-drop (c - (a + n)) (a + n) t ∙ ap (λ (k : ℕ). drop k t) sum

  -- the same elements in their place: the same list
  pub part_same : take n (drop a xs') ≡ take n (drop a xs) → xs' ≡ xs
  part_same e =
      only ∙ ap (λ (p : List X). take a xs ++ (p ++ drop n (drop a xs))) e
      ∙ ap (λ (r : List X). take a xs ++ r) (take-append-drop n (drop a xs)) ∙ take-append-drop a xs

-- ---- stripes, each with so many elements

pub fits_in : (s each stripes : ℕ) → s < stripes → s * each + each ≤ stripes * each
fits_in s each stripes l = omega (arith, mul-le-mul_right each l, suc-mul s each)

-- the part of stripe s of a table that has one for each stripe
module _ {X : Type 0} (s each stripes : ℕ) (xs : List X) (in-range : s < stripes) (few : stripes ≤ stripe_limit) (small : each ≤ part_most)
    (long : length xs ≡ stripes * each) where
  room : s * each + each ≤ length xs
  room = rw long (fits_in s each stripes in-range)

  has : has_part s each (length xs) ≡ true
  has = rw (le-leb each part_most small, lt-ltb s stripe_limit (omega (arith, in-range, few)), le-leb (s * each + each) (length xs) room)

  from : part_from s each (length xs) ≡ s * each
  from = rw has

  to : part_to s each (length xs) ≡ s * each + each
  to = rw has

  pub part-is : (ys : List X) → part_in (part_of s each (length xs)) ys ≡ of_stripe s each ys
  part-is ys = rw (from, to, add-sub_cancel_left (s * each) each)

  module _ (xs' : List X) (only : Only (part_of s each (length xs)) xs xs') where
    alone : xs' ≡ take (s * each) xs ++ (take each (drop (s * each) xs') ++ drop each (drop (s * each) xs))
    alone = only.1 ∙ rw (from, to, add-sub_cancel_left (s * each) each)

    pub others_same : (r : ℕ) → (r ≡ s → ⊥) → of_stripe r each xs' ≡ of_stripe r each xs
    others_same r other = by (dec_lt r s)
      where
        by : Dec (r < s) → of_stripe r each xs' ≡ of_stripe r each xs
        by (yes l) = part-before (s * each) each xs xs' room only.0 alone (r * each) each (fits_in r each s l)
        by (no l) = part-after (s * each) each xs xs' room only.0 alone (r * each) each (fits_in s each r (over (dec_lt s r)))
          where
            over : Dec (s < r) → s < r
            over (yes h) = h
            over (no h) = absurd (other (omega (arith, l, h)))

    pub table_same : of_stripe s each xs' ≡ of_stripe s each xs → xs' ≡ xs
    table_same e = part_same (s * each) each xs xs' room only.0 alone e
