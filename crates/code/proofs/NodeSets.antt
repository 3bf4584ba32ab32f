-- The members of a set of nodes, in rising order. Assumes nothing.
use mathlib.Core.Bool.{Bool, true, false, cond, ◌&&◌, ◌||◌, not}
use mathlib.Core.List.{[], ◌∷◌}
use mathlib.Core.Logic.{◌≢◌}
use mathlib.Core.Path.{◌≡◌, refl, sym, ap, ◌∙◌}
use Prim.Native.Nat.{ℕ, zero, suc, ◌+◌, ◌-◌, ◌≤◌, ◌<◌}
use native.Mathlib.Decide.{dec_lt}
use native.Mathlib.Omega.{arith}
use lib.Dec.{eqb}
use lib.ListN.{length, get_or, get_or-eq_default}
use Rattle.basics.proofs.Tests.{never_both}
use Rattle.basics.proofs.Lists.{length-list_of, get_or-list_of}
use Rattle.code.specs.Decode.{NodeSet, has, set_of, including, excluding, members_from, size, lowest, invertible}
use Rattle.gf256.proofs.Sum.{All}
use Rattle.code.proofs.Invertible.{invertible-chosen}
use Rattle.code.proofs.Recover.{Chosen}

-- ---- a set from a test

pub has-set_of : (p : ℕ → Bool) (j : ℕ) → 1 ≤ j → j ≤ 18 → has (set_of p) j ≡ p j
unfolding has set_of
has-set_of p zero l1 l18 = absurd (omega arith)
has-set_of p (suc j) l1 l18 = get_or-list_of 18 (λ i. p (suc i)) j false l18

pub has-zero : (s : NodeSet) → has s 0 ≡ false
unfolding has
has-zero s = refl

pub has-past : (s : NodeSet) (j : ℕ) → length s < j → has s j ≡ false
unfolding has
has-past s zero l = refl
has-past s (suc j) l = get_or-eq_default s false (omega arith)

pub has_within : (s : NodeSet) (j : ℕ) → has s j ≡ true → j ≤ length s
has_within s j e = by (dec_lt (length s) j)
  where
    by : Dec (length s < j) → j ≤ length s
    by (yes l) = absurd (never_both (has s j) e (has-past s j l))
    by (no n) = omega arith

pub length-set_of : (p : ℕ → Bool) → length (set_of p) ≡ 18
unfolding set_of
length-set_of p = length-list_of 18 (λ i. p (suc i))

pub set_of-has : (p : ℕ → Bool) (j : ℕ) → has (set_of p) j ≡ true → p j ≡ true
set_of-has p zero e = absurd (never_both (has (set_of p) 0) e (has-zero (set_of p)))
set_of-has p (suc j) e =
    sym (has-set_of p (suc j) (omega arith) (omega (arith, has_within (set_of p) (suc j) e, length-set_of p))) ∙ e

pub has-set_of-past : (p : ℕ → Bool) (j : ℕ) → 18 < j → has (set_of p) j ≡ false
has-set_of-past p j l = has-past (set_of p) j (rw (length-set_of p) l)

-- node j is put in if b, and else taken out
pub has-put : (b : Bool) (j : ℕ) (s : NodeSet) (i : ℕ) → 1 ≤ i → i ≤ 18 → has (cond b (including j s) (excluding j s)) i ≡ cond (eqb i j) b (has s i)
has-put true j s i l1 l18 = has-set_of (λ l. eqb l j || has s l) i l1 l18 ∙ by (eqb i j) (has s i)
  where
    by : (e h : Bool) → (e || h) ≡ cond e true h
    by true h = refl
    by false h = refl
has-put false j s i l1 l18 = has-set_of (λ l. not (eqb l j) && has s l) i l1 l18 ∙ by (eqb i j) (has s i)
  where
    by : (e h : Bool) → (not e && h) ≡ cond e false h
    by true h = refl
    by false h = refl

-- ---- the members of s, the first place being that of node j

-- m is one of the nodes that s has places for, and is in it
record Member (j : ℕ) (s : NodeSet) (m : ℕ) : Type 0 where
  from : j ≤ m
  to : m < j + length s
  there : get_or s (m - j) false ≡ true

later : (j m : ℕ) (b : Bool) (s : NodeSet) → Member (suc j) s m → Member j (b ∷ s) m
later j m b s i =
    let next : m - j ≡ suc (m - suc j) = omega arith in
    record { from = omega arith; to = omega arith; there = rw next i.there }

member : (s : NodeSet) (j q : ℕ) → q < length (members_from j s) → Member j s (get_or (members_from j s) q 0)
unfolding members_from
member [] j q l = absurd (omega arith)
member (true ∷ s) j zero l = let here : j - j ≡ 0 = omega arith in record { from = omega arith; to = omega arith; there = rw here }
member (true ∷ s) j (suc q) l = later j (get_or (members_from (suc j) s) q 0) true s (member s (suc j) q (omega arith))
member (false ∷ s) j q l = later j (get_or (members_from (suc j) s) q 0) false s (member s (suc j) q l)

rising : (s : NodeSet) (j p q : ℕ) → p < q → q < length (members_from j s) → get_or (members_from j s) p 0 < get_or (members_from j s) q 0
unfolding members_from
rising [] j p q lp lq = absurd (omega arith)
rising (true ∷ s) j p zero lp lq = absurd (omega arith)
rising (true ∷ s) j zero (suc q) lp lq = (member s (suc j) q (omega arith)).from
rising (true ∷ s) j (suc p) (suc q) lp lq = rising s (suc j) p q (omega arith) (omega arith)
rising (false ∷ s) j p q lp lq = rising s (suc j) p q lp lq

-- ---- the qth lowest member, q from 1

module _ (s : NodeSet) (q : ℕ) (q1 : 1 ≤ q) (qs : q ≤ size s) where
  pub lowest-from : 1 ≤ lowest s q
  lowest-from = (member s 1 (q - 1) (omega arith)).from

  pub lowest-to : lowest s q ≤ length s
  lowest-to = let m = member s 1 (q - 1) (omega arith) in omega (arith, m.to)

  pub lowest-has : has s (lowest s q) ≡ true
  unfolding has
  lowest-has =
      let m = member s 1 (q - 1) (omega arith) in
      let e : lowest s q ≡ suc (lowest s q - 1) = omega (arith, m.from) in
      rw e m.there

pub lowest-rises : (s : NodeSet) (p q : ℕ) → 1 ≤ p → p < q → q ≤ size s → lowest s p < lowest s q
lowest-rises s p q p1 pq qs = rising s 1 (p - 1) (q - 1) (omega arith) (omega arith)

pub lowest-chosen : (k : ℕ) (s : NodeSet) → ((j : ℕ) → has s j ≡ true → j ≤ 256) → k ≤ size s → Chosen k (lowest s)
lowest-chosen k s within ks =
    record {
      from = λ q q1 qk. lowest-from s q q1 (omega arith);
      to = λ q q1 qk. within (lowest s q) (lowest-has s q q1 (omega arith));
      distinct = λ p p1 pk q q1 qk h. differ p q p1 pk q1 qk h (dec_lt p q);
    }
  where
    differ : (p q : ℕ) → 1 ≤ p → p ≤ k → 1 ≤ q → q ≤ k → p ≢ q → Dec (p < q) → lowest s p ≢ lowest s q
    differ p q p1 pk q1 qk h (yes l) = omega (arith, lowest-rises s p q p1 l (omega arith))
    differ p q p1 pk q1 qk h (no n) = omega (arith, lowest-rises s q p q1 (omega arith) (omega arith))

-- so decoding from k members or more never meets rows with no inverse
pub lowest-invertible : (k : ℕ) (s : NodeSet) → length s ≤ 256 → k ≤ 256 → k ≤ size s → invertible k (lowest s) ≡ true
lowest-invertible k s ls lk ks = invertible-chosen k (lowest s) lk (lowest-chosen k s (λ j e. omega (arith, has_within s j e)) ks)

-- ---- the size is the number of members

-- how many of 1 to n the test p holds of
unfoldable pub count : ℕ → (ℕ → Bool) → ℕ
count zero p = 0
count (suc n) p = count n p + cond (p (suc n)) 1 0

pub count-ext : (n : ℕ) (p r : ℕ → Bool) → All n (λ j. p j ≡ r j) → count n p ≡ count n r
unfolding count
count-ext zero p r e = refl
count-ext (suc n) p r e = rw (count, e (suc n) (omega arith) (omega arith), count-ext n p r (λ j l1 ln. e j l1 (omega arith)))

-- the first apart
count-first : (n : ℕ) (p : ℕ → Bool) → count (suc n) p ≡ cond (p 1) 1 0 + count n (λ j. p (suc j))
unfolding count
count-first zero p = omega arith
count-first (suc n) p = rw (count, count-first n p) (omega arith)

size-from : (s : NodeSet) (j : ℕ) → length (members_from j s) ≡ count (length s) (has s)
unfolding members_from count has
size-from [] j = refl
size-from (b ∷ s) j =
    by b (size-from s (suc j))
    ∙ sym (count-first (length s) (has (b ∷ s)) ∙ ap (λ n. cond b 1 0 + n) (count-ext (length s) (λ j. has (b ∷ s) (suc j)) (has s) rest))
  where
    rest : (j : ℕ) → 1 ≤ j → j ≤ length s → get_or (b ∷ s) j false ≡ has s j
    rest zero l1 ln = absurd (omega arith)
    rest (suc j) l1 ln = refl

    by : (b : Bool) → length (members_from (suc j) s) ≡ count (length s) (has s)
        → length (members_from j (b ∷ s)) ≡ cond b 1 0 + count (length s) (has s)
    by true e = omega arith
    by false e = omega arith

pub size-count : (s : NodeSet) → size s ≡ count (length s) (has s)
size-count s = size-from s 1
