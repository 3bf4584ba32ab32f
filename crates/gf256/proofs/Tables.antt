-- The two tables as their rules make them: the powers by doubling, the logarithms as the places of the powers. Assumes nothing.
use mathlib.Core.Bool.{true}
use mathlib.Core.List.{List, [], ◌∷◌}
use mathlib.Core.Path.{◌≡◌, refl, sym, ap, ◌∙◌}
use Prim.Native.Nat.{ℕ, zero, suc, ◌+◌, ◌<◌}
use native.Mathlib.Nat.{add-zero, zero-add, add-suc, suc-add, le_of_suc-le-suc}
use native.Mathlib.Omega.{arith}
use lib.Dec.{eqb, ltb}
use lib.ListN.{get_or, set, replicate}
use borrow.Author.Tests.{ltb-true}
use Rattle.gf256.specs.Field.{double, power, IsPowers, IsLogarithms}
use Rattle.basics.proofs.Computed.{every, below, same-below}

-- n numbers from x on, each the double of the one before
unfoldable pub doublings : ℕ → ℕ → List ℕ
doublings zero x = []
doublings (suc n) x = x ∷ doublings n (double x)

doublings-at : (n m i : ℕ) → i < n → get_or (doublings n (power m)) i 0 ≡ power (m + i)
unfolding doublings power
doublings-at zero m i l = absurd (omega arith)
doublings-at (suc n) m zero l = ap power (sym (add-zero m))
doublings-at (suc n) m (suc i) l =
    doublings-at n (suc m) i (le_of_suc-le-suc l) ∙ ap power (suc-add m i ∙ sym (add-suc m i))

unfoldable pub powers : List ℕ
powers = doublings 255 1

pub powers-are : IsPowers powers
unfolding powers power
powers-are = record { at = λ i l. doublings-at 255 0 i l ∙ ap power (zero-add i) }

-- t with i at the place x, i + 1 at y, .. for the numbers x, y, .. of the list
unfoldable pub places : ℕ → List ℕ → List ℕ → List ℕ
places i [] t = t
places i (x ∷ xs) t = places (suc i) xs (set t x i)

unfoldable pub logarithms : List ℕ
logarithms = places 0 powers (replicate 256 0)

small : (a : ℕ) → a < 256 → get_or logarithms a 0 < 255
small a l = ltb-true (get_or logarithms a 0) 255 (below 256 (λ a. ltb (get_or logarithms a 0) 255) computed a l)
  where
    computed : every 256 (λ a. ltb (get_or logarithms a 0) 255) ≡ true
    computed = unfold every logarithms places powers doublings double in refl

-- a stands among the powers at the place that is its logarithm: the test of the whole table
undone : (a : ℕ) → a < 255 → get_or powers (get_or logarithms (suc a) 0) 0 ≡ suc a
undone = same-below 255 (λ a. get_or powers (get_or logarithms (suc a) 0) 0) suc computed
  where
    computed : every 255 (λ a. eqb (get_or powers (get_or logarithms (suc a) 0) 0) (suc a)) ≡ true
    computed = unfold every logarithms places powers doublings double in refl

pub logarithms-are : IsLogarithms logarithms
logarithms-are = record { unused = unused; small = small; at = at }
  where
    unused : get_or logarithms 0 0 ≡ 0
    unused = unfold logarithms places powers doublings double in refl

    at : (a : ℕ) → 0 < a → a < 256 → power (get_or logarithms a 0) ≡ a
    at zero p l = absurd (omega arith)
    at (suc a) p l = sym (powers-are.at (get_or logarithms (suc a) 0) (small (suc a) l)) ∙ undone a (le_of_suc-le-suc l)
