-- Groups by the lowest eight bits of a number: each rule is a test of all 256, which antt computes once. Assumes nothing.
use mathlib.Core.Path.{◌≡◌, refl, sym, ap, ◌∙◌}
use mathlib.Core.Logic.{◌≢◌}
use mathlib.Core.Bool.{Bool, true, false, cond, ◌&&◌}
use mathlib.Core.List.{List, [], ◌∷◌, ◌++◌}
use Prim.Native.Nat.{ℕ, suc, ◌+◌, ◌-◌, ◌*◌, ◌/◌, ◌%◌, ◌^◌, ◌≤◌, ◌<◌}
use native.Mathlib.Decide.{dec_lt}
use native.Mathlib.Nat.{le-div_iff_mul-le}
use native.Mathlib.Omega.{arith}
use lib.Bits.{bit_or}
use lib.Count.{count_leading_zeros}
use lib.Dec.{eqb, leb}
use lib.Pow.{pow_pos}
use lib.ListN.{get_or}
use borrow.Author.Tests.{eqb-true, leb-true, le-leb, lt-ltb, le-ltb, eq-eqb, ne_eqb}
use Rattle.basics.proofs.Computed.{every, below, same-below}
use Rattle.basics.proofs.Tests.{and_left, and_right, clash}
use Rattle.basics.specs.Lists.{every_of}
use Rattle.groups.specs.declared.Groups.{Groups}
use Rattle.groups.specs.Groups.{total, groups_fit, earlier_nodes}
use Rattle.groups.specs.View.{sizes_from, group_sizes, ends_of, groups_of, one_group, places, impossible, OneSizes}

-- a test of all numbers of eight bits, with every number below n
module _ (n : ℕ) (p : ℕ → ℕ → Bool) (computed : every 256 (λ e. every n (p e)) ≡ true) where
  pub bytes : (e i : ℕ) → e < 256 → i < n → p e i ≡ true
  bytes e i small few = below n (p e) (below 256 (λ e. every n (p e)) computed e small) i few

-- two tests that have the same outcome
abbrev alike : Bool → Bool → Bool
alike true true = true
alike true false = false
alike false true = false
alike false false = true

are-alike : (a b : Bool) → alike a b ≡ true → a ≡ b
are-alike true true e = refl
are-alike true false e = cc
are-alike false true e = cc
are-alike false false e = refl

-- two lists of the same numbers
unfoldable same_numbers : List ℕ → List ℕ → Bool
same_numbers [] [] = true
same_numbers [] (y ∷ ys) = false
same_numbers (x ∷ xs) [] = false
same_numbers (x ∷ xs) (y ∷ ys) = eqb x y && same_numbers xs ys

are-same : (xs ys : List ℕ) → same_numbers xs ys ≡ true → xs ≡ ys
unfolding same_numbers
are-same [] [] e = refl
are-same [] (y ∷ ys) e = cc
are-same (x ∷ xs) [] e = cc
are-same (x ∷ xs) (y ∷ ys) e =
    let a = eqb-true x y (and_left (eqb x y) (same_numbers xs ys) e) in
    let b = are-same xs ys (and_right (eqb x y) (same_numbers xs ys) e) in
    rw (a, b)

pub nodes-of : (e : ℕ) → e < 256 → 64 - count_leading_zeros 64 e ≡ total (sizes_from 8 e 0)
nodes-of = same-below 256 (λ e. 64 - count_leading_zeros 64 e) (λ e. total (sizes_from 8 e 0)) computed
  where
    computed : every 256 (λ e. eqb (64 - count_leading_zeros 64 e) (total (sizes_from 8 e 0))) ≡ true
    computed = unfold every count_leading_zeros total sizes_from in refl

pub nodes-few : (e : ℕ) → e < 256 → total (sizes_from 8 e 0) ≤ 8
nodes-few e l = leb-true (total (sizes_from 8 e 0)) 8 (below 256 (λ e. leb (total (sizes_from 8 e 0)) 8) computed e l)
  where
    computed : every 256 (λ e. leb (total (sizes_from 8 e 0)) 8) ≡ true
    computed = unfold every total sizes_from in refl

-- the groups end with the last of the redundant nodes
pub fit_of : (e r : ℕ) → e < 256 → r < 6 → eqb (e / 2 ^ r) 1 ≡ groups_fit (r + 1) (sizes_from 8 e 0)
fit_of e r l few = are-alike _ _ (bytes 6 (λ e r. alike (eqb (e / 2 ^ r) 1) (groups_fit (r + 1) (sizes_from 8 e 0))) computed e r l few)
  where
    computed : every 256 (λ e. every 6 (λ r. alike (eqb (e / 2 ^ r) 1) (groups_fit (r + 1) (sizes_from 8 e 0)))) ≡ true
    computed = unfold every groups_fit every_of total sizes_from in refl

-- the ends below a node are those of the earlier groups
pub earlier-of : (e j : ℕ) → e < 256 → j < 6 → total (sizes_from 8 (e % 2 ^ j) 0) ≡ earlier_nodes (sizes_from 8 e 0) (j + 1)
earlier-of e j l few =
    eqb-true _ _ (bytes 6 (λ e j. eqb (total (sizes_from 8 (e % 2 ^ j) 0)) (earlier_nodes (sizes_from 8 e 0) (j + 1))) computed e j l few)
  where
    computed : every 256 (λ e. every 6 (λ j. eqb (total (sizes_from 8 (e % 2 ^ j) 0)) (earlier_nodes (sizes_from 8 e 0) (j + 1)))) ≡ true
    computed = unfold every total sizes_from earlier_nodes in refl

-- one bit
pub bit-of : (j : ℕ) → j < 8 → 1 * 2 ^ j % 2 ^ 64 ≡ 2 ^ j
bit-of = same-below 8 (λ j. 1 * 2 ^ j % 2 ^ 64) (λ j. 2 ^ j) computed
  where
    computed : every 8 (λ j. eqb (1 * 2 ^ j % 2 ^ 64) (2 ^ j)) ≡ true
    computed = unfold every in refl

-- a group more ends where the nodes so far and its own end
abbrev more : ℕ → ℕ → Groups
more e size = record { ends = bit_or e (1 * 2 ^ (total (sizes_from 8 e 0) + size) % 2 ^ 64) }

unfoldable ends_with : ℕ → ℕ → Bool
ends_with e size =
    cond (leb (total (sizes_from 8 e 0) + (size + 1)) 8) (same_numbers (group_sizes (more e size)) (sizes_from 8 e 0 ++ ((size + 1) ∷ []))) true

pub with-of : (e size : ℕ) → e < 256 → size < 8 → total (sizes_from 8 e 0) + (size + 1) ≤ 8
    → group_sizes (record { ends = bit_or e (1 * 2 ^ (total (sizes_from 8 e 0) + size) % 2 ^ 64) }) ≡ sizes_from 8 e 0 ++ ((size + 1) ∷ [])
unfolding ends_with
with-of e size l few room =
    let fits = le-leb (total (sizes_from 8 e 0) + (size + 1)) 8 room in
    let passed = bytes 8 ends_with computed e size l few in
    are-same _ _ (rw fits at passed)
  where
    computed : every 256 (λ e. every 8 (ends_with e)) ≡ true
    computed = unfold every total sizes_from group_sizes same_numbers ends_with in refl

-- no bit set
pub none_of : group_sizes (groups_of []) ≡ []
none_of = unfold group_sizes sizes_from ends_of in refl

-- one bit set: all nodes are in one group
pub one_of : (size : ℕ) → size < 8 → ends_of ((size + 1) ∷ []) ≡ 1 * 2 ^ size % 2 ^ 64
one_of = same-below 8 (λ size. ends_of ((size + 1) ∷ [])) (λ size. 1 * 2 ^ size % 2 ^ 64) computed
  where
    computed : every 8 (λ size. eqb (ends_of ((size + 1) ∷ [])) (1 * 2 ^ size % 2 ^ 64)) ≡ true
    computed = unfold every ends_of in refl

unfoldable one_size : ℕ → Bool
one_size size = same_numbers (group_sizes (one_group (size + 1))) ((size + 1) ∷ [])

pub one-sizes : OneSizes
unfolding one_size
one-sizes size low few =
    let back : size ≡ size - 1 + 1 = omega arith in
    ap (λ size. group_sizes (one_group size)) back ∙ (are-same _ _ (below 8 one_size computed (size - 1) (omega arith)) ∙ ap (λ size. size ∷ []) (sym back))
  where
    computed : every 8 one_size ≡ true
    computed = unfold every group_sizes sizes_from ends_of same_numbers one_size in refl

-- all bits set
pub impossible-of : sizes_from 8 255 0 ≡ impossible
impossible-of = unfold sizes_from in refl

unfoldable ends-again : ℕ → ℕ → Bool
ends-again e r = cond (groups_fit (r + 1) (sizes_from 8 e 0)) (eqb (ends_of (places (sizes_from 8 e 0))) e) true

pub ends-back : (e r : ℕ) → e < 256 → r < 6 → groups_fit (r + 1) (sizes_from 8 e 0) ≡ true → ends_of (places (sizes_from 8 e 0)) ≡ e
unfolding ends-again
ends-back e r l few fits = let passed = bytes 6 ends-again computed e r l few in eqb-true _ _ (rw fits at passed)
  where
    computed : every 256 (λ e. every 6 (ends-again e)) ≡ true
    computed = unfold every groups_fit every_of total sizes_from ends_of ends-again in refl

-- one bit at a time: group `left` of those by w bits, run nodes of the first standing before them
module _ (w ends run left : ℕ) where
  pub size-here : 0 < w → ends % 2 ≡ 1 → left ≡ 0 → get_or (sizes_from w ends run) left 0 ≡ run + 1
  unfolding sizes_from
  size-here l e h = let q : w ≡ suc (w - 1) = omega arith in rw (q, h, eq-eqb (ends % 2) 1 e)

  pub size-next : 0 < w → ends % 2 ≡ 1 → 0 < left → get_or (sizes_from w ends run) left 0 ≡ get_or (sizes_from (w - 1) (ends / 2) 0) (left - 1) 0
  unfolding sizes_from
  size-next l e h =
      let q : w ≡ suc (w - 1) = omega arith in
      let p : left ≡ suc (left - 1) = omega arith in
      ap (λ x. get_or (sizes_from x ends run) left 0) q ∙ (rw (eq-eqb (ends % 2) 1 e) (ap (λ x. get_or ((run + 1) ∷ sizes_from (w - 1) (ends / 2) 0) x 0) p))

  pub size-on : 0 < w → ends % 2 ≢ 1 → get_or (sizes_from w ends run) left 0 ≡ get_or (sizes_from (w - 1) (ends / 2) (run + 1)) left 0
  unfolding sizes_from
  size-on l e = let q : w ≡ suc (w - 1) = omega arith in ap (λ x. get_or (sizes_from x ends run) left 0) q ∙ rw (ne_eqb (ends % 2) 1 e)

  pub size_none : w ≡ 0 → get_or (sizes_from w ends run) left 0 ≡ 0
  unfolding sizes_from
  size_none e = rw e

-- ---- the groups that a number is seen as

-- of a byte, and of no byte
pub seen : (g : Groups) → g.ends < 256 → group_sizes g ≡ sizes_from 8 g.ends 0
unfolding group_sizes
seen g l = rw (lt-ltb g.ends 256 l)

pub unseen : (g : Groups) → 256 ≤ g.ends → group_sizes g ≡ impossible
unfolding group_sizes
unseen g l = rw (le-ltb g.ends 256 l)

impossible-fits : (r : ℕ) → groups_fit r impossible ≡ false
impossible-fits r = unfold groups_fit in refl

-- groups of few enough nodes are a byte, and so are groups that fit
pub few-byte : (g : Groups) → total (group_sizes g) ≤ 7 → g.ends < 256
unfolding total
few-byte g l = by (dec_lt g.ends 256)
  where
    by : Dec (g.ends < 256) → g.ends < 256
    by (yes small) = small
    by (no large) = let n = ap total (unseen g (omega arith)) in absurd (omega arith)

pub fit-byte : (g : Groups) (r : ℕ) → groups_fit r (group_sizes g) ≡ true → g.ends < 256
fit-byte g r e = by (dec_lt g.ends 256)
  where
    by : Dec (g.ends < 256) → g.ends < 256
    by (yes small) = small
    by (no large) = clash e (ap (groups_fit r) (unseen g (omega arith)) ∙ impossible-fits r)

-- whether groups fit is whether the last redundant node's bit is the highest, also of a number that has no meaning
pub fit_all : (g : Groups) (r : ℕ) → r < 6 → eqb (g.ends / 2 ^ r) 1 ≡ groups_fit (r + 1) (group_sizes g)
fit_all g r few = by (dec_lt g.ends 256)
  where
    computed : every 6 (λ r. leb (2 ^ r) 32) ≡ true
    computed = unfold every in refl

    by : Dec (g.ends < 256) → eqb (g.ends / 2 ^ r) 1 ≡ groups_fit (r + 1) (group_sizes g)
    by (yes small) = rw (seen g small) (fit_of g.ends r small few)
    by (no large) = rw (unseen g (omega arith), impossible-fits (r + 1)) (ne_eqb (g.ends / 2 ^ r) 1 (λ one.
        let p = leb-true (2 ^ r) 32 (below 6 (λ r. leb (2 ^ r) 32) computed r few) in
        let two = (le-div_iff_mul-le (pow_pos r)).1 (let h : 2 * 2 ^ r ≤ g.ends = omega arith in h) in
        omega (arith, two, one)))

-- groups of redundant nodes are had back from their sizes
pub groups-back : (g : Groups) (r : ℕ) → 1 ≤ r → r ≤ 6 → groups_fit r (group_sizes g) ≡ true → groups_of (places (group_sizes g)) ≡ g
groups-back g r low few fits =
    let small = fit-byte g r fits in
    let back : r ≡ r - 1 + 1 = omega arith in
    ap (λ sizes. groups_of (places sizes)) (seen g small)
    ∙ (λ i. record { ends = ends-back g.ends (r - 1) small (omega arith) (rw (seen g small, back) at fits) i })
