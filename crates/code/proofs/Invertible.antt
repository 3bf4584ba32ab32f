-- The k chosen rows of k distinct nodes have an inverse, and the test says so (specs/Determined.antt). Assumes nothing.
use mathlib.Core.Bool.{Bool, true, false, cond}
use mathlib.Core.Logic.{◌≢◌}
use mathlib.Core.Path.{◌≡◌, refl, sym, ◌∙◌}
use Prim.Native.Nat.{ℕ, zero, suc, ◌-◌, ◌≤◌, ◌<◌}
use native.Mathlib.Decide.{ℕ_discrete, dec_le}
use native.Mathlib.Omega.{arith}
use lib.Dec.{eqb}
use borrow.Author.Tests.{eq-eqb, ne_eqb, le-leb, lt-leb}
use Rattle.basics.proofs.Tests.{never_both}
use Rattle.gf256.proofs.Laws.{product-comm, product-zero, one_product, inverse-byte}
use Rattle.code.specs.Code.{coefficient, row, symbol}
use Rattle.code.specs.Decode.{recovered, each, invertible}
use Rattle.code.specs.Determined.{Invertible, Decides}
use Rattle.gf256.proofs.Ring.{◌⊕◌, ◌⊗◌}
use Rattle.gf256.proofs.Sum.{All, sum_one}
use Rattle.code.proofs.Symbols.{symbol-data, symbol-redundant}
use Rattle.code.proofs.Recover.{Chosen, recovered-byte, recover-agrees, recover-symbol}

-- ---- k distinct nodes have one

pub chosen-invertible : (k : ℕ) (s : ℕ → ℕ) → k ≤ 256 → Chosen k s → Invertible k s
chosen-invertible k s lk c y b =
    (recovered k s y, record { bytes = λ i i1 ik. recovered-byte k s y i; holds = λ q q1 qk. recover-agrees k s lk c y q q1 qk (b q q1 qk) })

-- ---- the test

each-true : (k : ℕ) (p : ℕ → Bool) → All k (λ i. p i ≡ true) → each k p ≡ true
unfolding each
each-true zero p e = refl
each-true (suc k) p e = rw (each, e (suc k) (omega arith) (omega arith), each-true k p (λ i i1 ik. e i i1 (omega arith)))

pub eqb_comm : (a b : ℕ) → eqb a b ≡ eqb b a
eqb_comm a b = by (ℕ_discrete a b)
  where
    by : Dec (a ≡ b) → eqb a b ≡ eqb b a
    by (yes e) = rw e
    by (no n) = ne_eqb a b n ∙ sym (ne_eqb b a (λ e. n (sym e)))

-- the data that are 1 at data node l, and else 0
abbrev unit : ℕ → ℕ → ℕ
unit l i = cond (eqb i l) 1 0

unit-byte : (l i : ℕ) → unit l i < 256
unit-byte l i = by (eqb i l)
  where
    by : (t : Bool) → cond t 1 0 < 256
    by true = omega arith
    by false = omega arith

-- of these every node holds its row's entry at l
symbol-unit : (k j l : ℕ) → 1 ≤ l → l ≤ k → symbol k j (unit l) ≡ row k j l
unfolding row coefficient
symbol-unit k j l l1 lk = by (dec_le j k)
  where
    by : Dec (j ≤ k) → symbol k j (unit l) ≡ row k j l
    by (yes h) = rw (symbol-data k j (unit l) h, le-leb j k h, eqb_comm l j)
    by (no h) =
        rw (symbol-redundant k j (unit l) (omega arith), lt-leb j k (omega arith))
        (sum_one k (λ i. coefficient j i ⊗ unit l i) l l1 lk (λ i i1 ik n. rw (ne_eqb i l n) (product-zero (coefficient j i)))
        ∙ rw (eq-eqb l l refl) (product-comm (coefficient j l) 1 ∙ one_product (coefficient j l) (inverse-byte ((j - 1) ⊕ (l - 1)))))

-- so from the rows' entries at l the chosen nodes recover them
pub invertible-chosen : (k : ℕ) (s : ℕ → ℕ) → k ≤ 256 → Chosen k s → invertible k s ≡ true
unfolding invertible recovered
invertible-chosen k s lk c =
    each-true k (λ i. each k (entry i))
    (λ i i1 ik. each-true k (entry i) (λ l l1 ll. eq-eqb (recovered k s (λ q. row k (s q) l) i) (unit l i)
    (recover-symbol k s lk c (λ q. row k (s q) l) (unit l) (λ j j1 jk. unit-byte l j) (λ q q1 qk. symbol-unit k (s q) l l1 ll) i i1 (omega arith)
    ∙ symbol-data k i (unit l) ik)))
  where
    entry : ℕ → ℕ → Bool
    entry i l = eqb (recovered k s (λ q. row k (s q) l) i) (unit l i)

-- ---- the test says what it means, of distinct nodes

pub invertible-decides : (k : ℕ) (s : ℕ → ℕ) → k ≤ 256 → Chosen k s → Decides k s
invertible-decides k s lk c =
    record {
      right = λ e. chosen-invertible k s lk c;
      wrong = λ e inverse. never_both (invertible k s) (invertible-chosen k s lk c) e;
    }

-- and a node given twice has no inverse
pub twice-not-invertible : (k : ℕ) (s : ℕ → ℕ) (p q : ℕ) → 1 ≤ p → p ≤ k → 1 ≤ q → q ≤ k → p ≢ q → s p ≡ s q → ¬ Invertible k s
twice-not-invertible k s p q p1 pk q1 qk h same inv =
    let (x, solves) = inv (unit p) (λ l l1 lk. unit-byte p l) in
    let one : symbol k (s p) x ≡ 1 = solves.holds p p1 pk ∙ rw (eq-eqb p p refl) in
    let none : symbol k (s q) x ≡ 0 = solves.holds q q1 qk ∙ rw (ne_eqb q p (λ e. h (sym e))) in
    let z : ◌≡◌ {A = ℕ} 0 1 = cc in
    omega arith
