-- A set of nodes as the code has it, the bits of one number: what its methods do. Assumes nothing.
use mathlib.Core.Bool.{Bool, true, false, cond, ◌&&◌, ◌||◌, not, and-true, and-false, and_assoc}
use mathlib.Core.List.{List, [], ◌∷◌, ◌++◌, append-nil}
use mathlib.Core.Logic.{◌≢◌}
use mathlib.Core.Path.{◌≡◌, refl, sym, ap, ◌∙◌}
use Prim.Native.Nat.{ℕ, zero, suc, ◌+◌, ◌-◌, ◌*◌, ◌/◌, ◌%◌, ◌^◌, ◌≤◌, ◌<◌}
use native.Mathlib.Nat.{add-zero, zero-add, add-suc, suc-add, one-mul, zero-mul, mod-one, mod-lt, div-eq_of_lt, le-div_iff_mul-le}
use native.Mathlib.Numerals.{add-one}
use native.Mathlib.Decide.{ℕ_discrete, dec_lt}
use native.Mathlib.Omega.{arith}
use lib.Bits.{bit_or, bit_xor}
use lib.Count.{ones}
use lib.Dec.{eqb}
use lib.ListN.{length, get_or, set, take, replicate, length-append, get_or-append, get_or-eq_default}
use lib.Pow.{pow_pos, pow_mono, shl_exact}
use lib.Seq.{take_all, get_or-set_same, get_or-set_other, take-suc, length-take-le, get_or_at}
use borrow.Author.Tests.{eq-eqb, ne_eqb}
use Rattle.gf256.proofs.Xor.{bit-cases}
use Rattle.basics.specs.Lists.{list_of}
use Rattle.basics.proofs.Lists.{length-list_of, list_of-cong}
use Rattle.code.specs.Decode.{has, set_of, including, excluding, members_from, members, size, set_within}
use Rattle.code.specs.View.{node_set_of}
use Rattle.code.specs.declared.nodes.NodeSet.{NodeSet}
use Rattle.code.proofs.Bits.{bit, bit_below, bit-or, bit-xor, bit-power, low-more, ones_low}
use Rattle.code.proofs.NodeSets.{has-set_of, length-set_of, count, count-ext, size-count}

-- a set is known by its members
pub set-cong : (p q : ℕ → Bool) → ((j : ℕ) → 1 ≤ j → j ≤ 18 → p j ≡ q j) → set_of p ≡ set_of q
unfolding set_of
set-cong p q e = list_of-cong 18 (λ i. p (suc i)) (λ i. q (suc i)) (λ i l. e (suc i) (omega arith) (omega arith))

pub eighteen : (s : NodeSet) → length (node_set_of s) ≡ 18
unfolding node_set_of
eighteen s = length-set_of (λ j. eqb (bit s.bits (j - 1)) 1)

-- node j is bit j - 1
pub has-bit : (s : NodeSet) (j : ℕ) → 1 ≤ j → j ≤ 18 → has (node_set_of s) j ≡ eqb (bit s.bits (j - 1)) 1
unfolding node_set_of
has-bit s j l1 l18 = has-set_of (λ j. eqb (bit s.bits (j - 1)) 1) j l1 l18

-- place j is node j + 1
pub has-place : (s : List Bool) (j : ℕ) → get_or s j false ≡ has s (j + 1)
unfolding has
has-place s j = rw (add-one j)

-- ---- a node is put in and taken out

module _ (s : NodeSet) (j : ℕ) where
  -- j is none of the 18
  module _ (out : (i : ℕ) → 1 ≤ i → i ≤ 18 → i ≢ j) where
    pub with_none : node_set_of s ≡ including j (node_set_of s)
    unfolding node_set_of
    with_none = set-cong _ _ (λ i l1 l18. rw (ne_eqb i j (out i l1 l18), has-bit s i l1 l18))

    pub without-none : node_set_of s ≡ excluding j (node_set_of s)
    unfolding node_set_of
    without-none = set-cong _ _ (λ i l1 l18. rw (ne_eqb i j (out i l1 l18), has-bit s i l1 l18))

  module _ (j1 : 1 ≤ j) (j18 : j ≤ 18) where
    power-bit : (i : ℕ) → 1 ≤ i → bit (1 * 2 ^ (j - 1) % 2 ^ 32) (i - 1) ≡ cond (eqb i j) 1 0
    power-bit i l1 =
        rw (shl_exact {a = 1} 1 (j - 1) 32 (omega arith) (omega arith), one-mul (2 ^ (j - 1)))
        (bit-power (j - 1) (i - 1) ∙ by (ℕ_discrete i j))
      where
        by : Dec (i ≡ j) → ◌≡◌ {A = ℕ} (cond (eqb (i - 1) (j - 1)) 1 0) (cond (eqb i j) 1 0)
        by (yes e) = rw (eq-eqb i j e, e, eq-eqb (j - 1) (j - 1) refl)
        by (no n) = rw (ne_eqb i j n, ne_eqb (i - 1) (j - 1) (λ e. n (omega arith)))

    with-bit : (y : Bool) (b : ℕ) → b < 2 → eqb (bit_or b (cond y 1 0)) 1 ≡ (y || eqb b 1)
    with-bit true b l = bit-cases (λ b. eqb (bit_or b 1) 1 ≡ true) b l refl refl
    with-bit false b l = bit-cases (λ b. eqb (bit_or b 0) 1 ≡ eqb b 1) b l refl refl

    without-bit : (y : Bool) (b : ℕ) → b < 2 → eqb (bit_xor (bit_or b (cond y 1 0)) (cond y 1 0)) 1 ≡ (not y && eqb b 1)
    without-bit true b l = bit-cases (λ b. eqb (bit_xor (bit_or b 1) 1) 1 ≡ false) b l refl refl
    without-bit false b l = bit-cases (λ b. eqb (bit_xor (bit_or b 0) 0) 1 ≡ eqb b 1) b l refl refl

    pub with-one : {r : NodeSet} → r.bits ≡ bit_or s.bits (1 * 2 ^ (j - 1) % 2 ^ 32) → node_set_of r ≡ including j (node_set_of s)
    unfolding node_set_of
    with-one {r} e =
        set-cong _ _
        (λ i l1 l18.
        rw (e, bit-or s.bits (1 * 2 ^ (j - 1) % 2 ^ 32) (i - 1), power-bit i l1, has-bit s i l1 l18)
        (with-bit (eqb i j) (bit s.bits (i - 1)) (bit_below s.bits (i - 1))))

    pub without-one : {r : NodeSet} → r.bits ≡ bit_xor (bit_or s.bits (1 * 2 ^ (j - 1) % 2 ^ 32)) (1 * 2 ^ (j - 1) % 2 ^ 32)
        → node_set_of r ≡ excluding j (node_set_of s)
    unfolding node_set_of
    without-one {r} e =
        let p = 1 * 2 ^ (j - 1) % 2 ^ 32 in
        set-cong _ _
        (λ i l1 l18.
        rw (e, bit-xor (bit_or s.bits p) p (i - 1), bit-or s.bits p (i - 1), power-bit i l1, has-bit s i l1 l18)
        (without-bit (eqb i j) (bit s.bits (i - 1)) (bit_below s.bits (i - 1))))

-- ---- the size

pub size-ones : (s : NodeSet) → ones (s.bits % 2 ^ 18) ≡ size (node_set_of s)
size-ones s =
    ones_low s.bits 18
    ∙ sym
    (size-count (node_set_of s)
    ∙ ap (λ m. count m (has (node_set_of s))) (eighteen s)
    ∙ count-ext 18 (has (node_set_of s)) (λ j. eqb (bit s.bits (j - 1)) 1) (λ j l1 l18. has-bit s j l1 l18))

-- ---- whether every member is one of 1 to n

within-short : (n : ℕ) (s : List Bool) → length s ≤ n → set_within n s ≡ true
unfolding set_within
within-short n [] l = refl
within-short zero (c ∷ s) l = absurd (omega arith)
within-short (suc n) (c ∷ s) l = within-short n s (omega arith)

-- of one place more
within-past : (n : ℕ) (s : List Bool) (b : Bool) → n ≤ length s → set_within n (s ++ (b ∷ [])) ≡ (set_within n s && not b)
unfolding set_within
within-past zero [] b l = and-true (not b)
within-past (suc n) [] b l = absurd (omega arith)
within-past zero (c ∷ s) b l = rw (set_within, within-past zero s b (omega arith)) (sym (and_assoc (not c) (set_within 0 s) (not b)))
within-past (suc n) (c ∷ s) b l = within-past n s b (omega arith)

-- of the first m bits: the number that they are, less its lowest n bits, is 0
module _ (a n : ℕ) where
  abbrev bits : ℕ → List Bool
  bits m = list_of m (λ i. eqb (bit a i) 1)

  more : (m : ℕ) → n ≤ m → (b r : ℕ) → b < 2 → (eqb (r / 2 ^ n) 0 && not (eqb b 1)) ≡ eqb ((b * 2 ^ m + r) / 2 ^ n) 0
  more m h b r lb =
      bit-cases (λ b. (eqb (r / 2 ^ n) 0 && not (eqb b 1)) ≡ eqb ((b * 2 ^ m + r) / 2 ^ n) 0) b lb
      (rw (zero-mul (2 ^ m), zero-add r) (and-true (eqb (r / 2 ^ n) 0)))
      (let large : 1 * 2 ^ n ≤ 1 * 2 ^ m + r = omega (arith, pow_mono h) in
      rw (and-false (eqb (r / 2 ^ n) 0)) (sym (ne_eqb ((1 * 2 ^ m + r) / 2 ^ n) 0 (λ e. omega (arith, (le-div_iff_mul-le (pow_pos n)).1 large)))))

  within-bits : (m : ℕ) → n ≤ m → set_within n (bits m) ≡ eqb (a % 2 ^ m / 2 ^ n) 0
  unfolding list_of
  within-bits zero l = within-short n [] (omega arith) ∙ sym (rw (mod-one a, div-eq_of_lt (pow_pos n)))
  within-bits (suc m) l = by (dec_lt m n) (within-bits m)
    where
      by : Dec (m < n) → (n ≤ m → set_within n (bits m) ≡ eqb (a % 2 ^ m / 2 ^ n) 0) → set_within n (bits m ++ (eqb (bit a m) 1 ∷ [])) ≡ eqb (a % 2 ^ suc m / 2 ^ n) 0
      by (no h) before =
          within-past n (bits m) (eqb (bit a m) 1) (omega (arith, length-list_of m (λ i. eqb (bit a i) 1)))
          ∙ rw (before (omega arith), low-more a m) (more m (omega arith) (bit a m) (a % 2 ^ m) (bit_below a m))
      by (yes h) before =
          let same : n ≡ suc m = omega arith in
          within-short n (bits m ++ (eqb (bit a m) 1 ∷ []))
          (rw (length-append (bits m) (eqb (bit a m) 1 ∷ [])) (omega (arith, length-list_of m (λ i. eqb (bit a i) 1))))
          ∙ sym (rw (same, div-eq_of_lt (mod-lt a (pow_pos (suc m)))))

pub within_all : (s : NodeSet) (n : ℕ) → 18 ≤ n → set_within n (node_set_of s) ≡ true
within_all s n l = within-short n (node_set_of s) (omega (arith, eighteen s))

pub within-some : (s : NodeSet) (n : ℕ) → n ≤ 18 → set_within n (node_set_of s) ≡ eqb (s.bits % 2 ^ 18 / 2 ^ n) 0
unfolding node_set_of set_of
within-some s n l =
    ap (set_within n) (list_of-cong 18 _ (λ i. eqb (bit s.bits i) 1) (λ i h. let e : suc i - 1 ≡ i = omega arith in rw e))
    ∙ within-bits s.bits n 18 l

-- ---- the members, place by place

members-append : (j : ℕ) (s t : List Bool) → members_from j (s ++ t) ≡ members_from j s ++ members_from (j + length s) t
unfolding members_from
members-append j [] t = rw (add-zero j)
members-append j (true ∷ s) t = rw (members_from, members-append (suc j) s t, add-suc j (length s), suc-add j (length s))
members-append j (false ∷ s) t = rw (members_from, members-append (suc j) s t, add-suc j (length s), suc-add j (length s))

-- the members among the first j nodes
abbrev pub upto : ℕ → List Bool → List ℕ
upto j s = members (take j s)

-- one node more
module _ (j : ℕ) (s : List Bool) (l : j < length s) where
  upto_next : upto (suc j) s ≡ upto j s ++ members_from (suc j) (get_or s j false ∷ [])
  upto_next =
      let e : 1 + length (take j s) ≡ suc j = omega (arith, length-take-le j s (omega arith)) in
      rw (take-suc s j false l, members-append 1 (take j s) (get_or s j false ∷ []), e)

  pub upto-in : get_or s j false ≡ true → upto (j + 1) s ≡ upto j s ++ (suc j ∷ [])
  unfolding members_from
  upto-in e = rw (add-one j) (upto_next ∙ rw e)

  pub upto-out : get_or s j false ≡ false → upto (j + 1) s ≡ upto j s
  unfolding members_from
  upto-out e = rw (add-one j) (upto_next ∙ rw e (append-nil (upto j s)))

  -- the count of them
  pub count-in : (n : ℕ) → get_or s j false ≡ true → n ≡ length (upto j s) → n + 1 ≡ length (upto (j + 1) s)
  count-in n e h = rw (upto-in e, length-append (upto j s) (suc j ∷ [])) (omega arith)

  pub count-out : (n : ℕ) → get_or s j false ≡ false → n ≡ length (upto j s) → n ≡ length (upto (j + 1) s)
  count-out n e h = rw (upto-out e) h

pub upto_all : (j : ℕ) (s : List Bool) → length s ≤ j → upto j s ≡ members s
upto_all j s l = rw (take_all j s l)

-- ---- their list, with 0 at each place past the last

abbrev pub Lists : List ℕ → List ℕ → Type 0
Lists ms r = (q : ℕ) → get_or r q 0 ≡ get_or ms q 0

pub lists-none : (n : ℕ) → Lists [] (replicate n 0)
lists-none zero q = refl
lists-none (suc n) zero = refl
lists-none (suc n) (suc q) = lists-none n q

-- one more is put after the others
lists-more : (ms r : List ℕ) (m : ℕ) → length ms < length r → Lists ms r → Lists (ms ++ (m ∷ [])) (set r (length ms) m)
lists-more ms r m l e q = by (ℕ_discrete q (length ms)) (dec_lt q (length ms))
  where
    by : Dec (q ≡ length ms) → Dec (q < length ms) → get_or (set r (length ms) m) q 0 ≡ get_or (ms ++ (m ∷ [])) q 0
    by (yes z) d = rw z (get_or-set_same r (length ms) m 0 l ∙ sym (get_or_at ms m [] 0 (length ms) refl))
    by (no n) (yes h) = get_or-set_other r (length ms) q m 0 n ∙ e q ∙ sym (get_or-append ms (m ∷ []) 0 q h)
    by (no n) (no h) =
        let long : length (ms ++ (m ∷ [])) ≤ q = rw length-append (omega arith) in
        get_or-set_other r (length ms) q m 0 n ∙ e q ∙ get_or-eq_default ms 0 (omega arith) ∙ sym (get_or-eq_default (ms ++ (m ∷ [])) 0 long)

pub lists-in : (j : ℕ) (s : List Bool) (n : ℕ) (r : List ℕ) → j < length s → get_or s j false ≡ true → n ≡ length (upto j s) → n < length r
    → Lists (upto j s) r → Lists (upto (j + 1) s) (set r n (j + 1))
lists-in j s n r l e h ln at =
    rw (upto-in j s l e, h, add-one j) (lists-more (upto j s) r (suc j) (omega arith) at)
