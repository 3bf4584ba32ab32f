-- The two statements of specs/Consistent: `the-largest` and `the-only`.
-- Every consistent set is within a candidate, `all_data` or `besides r`, which is consistent too; `largest` is the first of the largest candidates.
-- Assumes nothing.
use mathlib.Core.Path.{◌≡◌, refl, sym, ap, ap₂, subst, ◌∙◌}
use mathlib.Core.Logic.{◌⊎◌, inl, inr}
use mathlib.Core.Bool.{Bool, true, false, cond, ◌&&◌, ◌||◌, and-false, and-or_distrib_left}
use mathlib.Core.List.{List, [], ◌∷◌}
use Prim.Native.Nat.{ℕ, zero, suc, ◌+◌, ◌-◌, ◌≤◌, ◌<◌}
use native.Mathlib.Decide.{dec_le, dec_lt}
use native.Mathlib.Nat.{eq-or-lt_of_le}
use native.Mathlib.Omega.{arith}
use lib.Dec.{eqb, leb, ltb}
use lib.ListN.{length, get_or-eq_default}
use borrow.Author.Tests.{leb-true, ltb-true, ltb-false, le-leb, lt-leb}
use Rattle.code.specs.Decode.{NodeSet, has, set_of, size}
use Rattle.code.proofs.NodeSets.{has-set_of, has-zero, has-past, has_within, set_of-has, count, size-count}
use Rattle.entries.specs.declared.WriteId.{WriteId}
use Rattle.entries.specs.Entries.{same_id, is_in}
use Rattle.records.specs.declared.Sizes.{Sizes}
use Rattle.records.specs.Node.{Node, failed_node, is_norm}
use Rattle.basics.specs.Lists.{element_at, every_of}
use Rattle.machine.specs.Stripe.{node_at}
use Rattle.machine.specs.Rebuild.{f, at_position, same_ids, fits, all_data, besides, largest}
use Rattle.machine.specs.Consistent.{SameSet, Redundant, Consistent, AllData, Lowest, Tie, TheLargest, PicksTheLargest, OneLargest}
use Rattle.basics.proofs.Tests.{bool_cases, clash, and_both, or-one, or_left, or_right, cond_ind}
use Rattle.machine.proofs.EntryLaws.{same_id_lem, same-id-refl}

-- tests that imply each other
same_tests : (a b : Bool) → (a ≡ true → b ≡ true) → (b ≡ true → a ≡ true) → a ≡ b
same_tests true b to from = sym (to refl)
same_tests false true to from = from refl
same_tests false false to from = refl

-- ---- sets of ids: `same_ids` tests whether they are the same

module _ (p : WriteId → Bool) where
  every-at : (ids : List WriteId) → every_of p ids ≡ true → (x : WriteId) → is_in x ids ≡ true → p x ≡ true
  unfolding every_of is_in
  every-at [] e x m = clash m refl
  every-at (y ∷ ids) e x m =
      let each = and_both (p y) (every_of p ids) e in at each.0 (every-at ids each.1 x) (or-one (same_id y x) (is_in x ids) m)
    where
      at : p y ≡ true → (is_in x ids ≡ true → p x ≡ true) → (same_id y x ≡ true) ⊎ (is_in x ids ≡ true) → p x ≡ true
      at head tail (inl same) = subst (λ x. p x ≡ true) (same_id_lem y x same) head
      at head tail (inr later) = tail later

  every_of_lem : (ids : List WriteId) → ((x : WriteId) → is_in x ids ≡ true → p x ≡ true) → every_of p ids ≡ true
  unfolding every_of is_in
  every_of_lem [] all = refl
  every_of_lem (y ∷ ids) all =
      rw (all y (or_left (same_id y y) (is_in y ids) (same-id-refl y))) (every_of_lem ids (λ x m. all x (or_right (same_id y x) (is_in x ids) m)))

module _ (a b : List WriteId) where
  same_set : same_ids a b ≡ true → SameSet a b
  same_set e x =
      let each = and_both (every_of (λ x. is_in x b) a) (every_of (λ x. is_in x a) b) e in
      same_tests (is_in x a) (is_in x b) (every-at (λ x. is_in x b) a each.0 x) (every-at (λ x. is_in x a) b each.1 x)

  same-ids : SameSet a b → same_ids a b ≡ true
  same-ids same = rw (every_of_lem (λ x. is_in x b) a (λ x m. sym (same x) ∙ m)) (every_of_lem (λ x. is_in x a) b (λ x m. same x ∙ m))

pub in-position : (i : ℕ) (x : WriteId) (ids : List WriteId) → is_in x (at_position i ids) ≡ (eqb x.position i && is_in x ids)
unfolding is_in at_position
in-position i x [] = sym (and-false (eqb x.position i))
in-position i x (y ∷ ids) =
    kept (eqb y.position i)
    ∙ ap₂ ◌||◌ (moved (same_id y x) (λ e. ap (λ x. eqb x.position i) (same_id_lem y x e))) (in-position i x ids)
    ∙ sym (and-or_distrib_left (eqb x.position i) (same_id y x) (is_in x ids))
  where
    kept : (t : Bool) → is_in x (cond t (y ∷ at_position i ids) (at_position i ids)) ≡ ((t && same_id y x) || is_in x (at_position i ids))
    kept true = refl
    kept false = refl

    -- an id that is x is at the position of x
    moved : (s : Bool) → (s ≡ true → eqb y.position i ≡ eqb x.position i) → (eqb y.position i && s) ≡ (eqb x.position i && s)
    moved true same = ap (λ t. t && true) (same refl)
    moved false same = and-false (eqb y.position i) ∙ sym (and-false (eqb x.position i))

same-position : (i : ℕ) (a b : List WriteId) → SameSet a b → SameSet (at_position i a) (at_position i b)
same-position i a b same x = in-position i x a ∙ ap (λ t. eqb x.position i && t) (same x) ∙ sym (in-position i x b)

-- ---- sizes: a set within another has at most its size, and where it has its size it is the other

abbrev Within : NodeSet → NodeSet → Type 0
Within s t = (j : ℕ) → has s j ≡ true → has t j ≡ true

module _ (p q : ℕ → Bool) (within : (j : ℕ) → p j ≡ true → q j ≡ true) where
  one-within : (j : ℕ) → cond (p j) 1 0 ≤ cond (q j) 1 0
  one-within j = by (p j) (q j) (within j)
    where
      by : (a b : Bool) → (a ≡ true → b ≡ true) → cond a 1 0 ≤ cond b 1 0
      by true b h = rw (h refl) (omega arith)
      by false b h = omega arith

  count-within : (n : ℕ) → count n p ≤ count n q
  unfolding count
  count-within zero = omega arith
  count-within (suc n) = omega (arith, count-within n, one-within (suc n))

  -- where q holds of some j that p does not hold of
  count_less : (j n : ℕ) → 1 ≤ j → j ≤ n → p j ≡ false → q j ≡ true → count n p < count n q
  unfolding count
  count_less j zero j1 jn out there = absurd (omega arith)
  count_less j (suc n) j1 jn out there = by (eq-or-lt_of_le jn) (λ l. count_less j n j1 (omega arith) out there)
    where
      by : (j ≡ suc n) ⊎ (j < suc n) → (j < suc n → count n p < count n q) → count (suc n) p < count (suc n) q
      by (inl last) earlier = rw (← last, out, there) (omega (arith, count-within n))
      by (inr l) earlier = omega (arith, earlier l, one-within (suc n))

-- the places past the end of the list hold no member
size-padded : (s : NodeSet) (m : ℕ) → count (length s + m) (has s) ≡ size s
unfolding count
size-padded s zero = let e : length s + 0 ≡ length s = omega arith in rw e (sym (size-count s))
size-padded s (suc m) =
    let e : length s + suc m ≡ suc (length s + m) = omega arith in
    rw (e, count, has-past s (suc (length s + m)) (omega arith)) (omega (arith, size-padded s m))

module _ (s t : NodeSet) (within : Within s t) where
  abbrev places : ℕ
  places = length s + length t

  size-s : count places (has s) ≡ size s
  size-s = size-padded s (length t)

  size-t : count places (has t) ≡ size t
  size-t = let e : places ≡ length t + length s = omega arith in rw e (size-padded t (length s))

  size-within : size s ≤ size t
  size-within = omega (arith, size-s, size-t, count-within (has s) (has t) within places)

  size-full : size t ≤ size s → Within t s
  size-full full zero there = clash there (has-zero t)
  size-full full (suc j) there = by (bool_cases (has s (suc j)))
    where
      by : (has s (suc j) ≡ true) ⊎ (has s (suc j) ≡ false) → has s (suc j) ≡ true
      by (inl e) = e
      by (inr out) =
          let end : suc j ≤ places = omega (arith, has_within t (suc j) there) in
          absurd (omega (arith, size-s, size-t, count_less (has s) (has t) within (suc j) places (omega arith) end out there))

-- ---- a set has data nodes alone, or a lowest redundant member

-- a lowest number that P holds of, or none below m
lowest-below : {P : ℕ → Type 0} → ((n : ℕ) → Dec (P n)) → (m : ℕ) → ((r : ℕ) × Lowest P r) ⊎ ((r : ℕ) → P r → m ≤ r)
lowest-below dec zero = inr (λ r p. omega arith)
lowest-below {P} dec (suc m) = by (lowest-below dec m) (dec m)
  where
    next : (P m → ⊥) → (r : ℕ) → P r → (m ≡ r) ⊎ (m < r) → suc m ≤ r
    next n r p (inl e) = absurd (n (subst P (sym e) p))
    next n r p (inr l) = l

    by : ((r : ℕ) × Lowest P r) ⊎ ((r : ℕ) → P r → m ≤ r) → Dec (P m) → ((r : ℕ) × Lowest P r) ⊎ ((r : ℕ) → P r → suc m ≤ r)
    by (inl found) d = inl found
    by (inr above) (yes p) = inl (m, record { holds = p; least = above })
    by (inr above) (no n) = inr (λ r p. next n r p (eq-or-lt_of_le (above r p)))

abbrev pub Place : Sizes → NodeSet → Type 0
Place z set = AllData z set ⊎ ((r : ℕ) × Lowest (Redundant z set) r)

module _ (z : Sizes) (set : NodeSet) where
  redundant? : (r : ℕ) → Dec (Redundant z set r)
  redundant? r = by (bool_cases (has set r)) (dec_lt z.k r)
    where
      by : (has set r ≡ true) ⊎ (has set r ≡ false) → Dec (z.k < r) → Dec (Redundant z set r)
      by (inl m) (yes l) = yes (record { member = m; beyond = l })
      by (inl m) (no n) = no (λ R. n R.beyond)
      by (inr out) d = no (λ R. clash R.member out)

  pub place : Place z set
  place = by (lowest-below redundant? (suc (length set)))
    where
      at : (j : ℕ) → has set j ≡ true → (Redundant z set j → length set < j) → Dec (z.k < j) → j ≤ z.k
      at j m past (yes l) = absurd (omega (arith, past (record { member = m; beyond = l }), has_within set j m))
      at j m past (no n) = omega arith

      by : ((r : ℕ) × Lowest (Redundant z set) r) ⊎ ((r : ℕ) → Redundant z set r → length set < r) → Place z set
      by (inl found) = inr found
      by (inr past) = inl (λ j m. at j m (past j) (dec_lt z.k j))

  none-redundant : {A : Type 0} {r : ℕ} → AllData z set → Redundant z set r → A
  none-redundant {r = r} a R = absurd (omega (arith, a r R.member, R.beyond))

-- ---- the candidates: they are consistent, and every consistent set is within one of them

module _ (z : Sizes) (nodes : List Node) where
  -- only a node that is there is NORM
  norm-there : (j : ℕ) → is_norm (node_at nodes j).opmode ≡ true → (1 ≤ j) × (j ≤ length nodes)
  unfolding element_at
  norm-there zero e = clash e refl
  norm-there (suc j) e = (omega arith, by (dec_lt j (length nodes)))
    where
      by : Dec (j < length nodes) → j < length nodes
      by (yes l) = l
      by (no n) = clash e (ap (λ x. is_norm x.opmode) (get_or-eq_default nodes failed_node {n = j} (omega arith)))

  all-data : AllData z (all_data z nodes)
  all-data j m = leb-true j z.k (and_both (leb j z.k) (is_norm (node_at nodes j).opmode) (set_of-has _ j m)).0

  consistent-data : Consistent z nodes (all_data z nodes)
  consistent-data =
      record {
        norm = λ j m. (and_both (leb j z.k) (is_norm (node_at nodes j).opmode) (set_of-has _ j m)).1;
        redundant = λ q r Q R. none-redundant z (all_data z nodes) all-data R;
        position = λ i r m l R. none-redundant z (all_data z nodes) all-data R;
      }

  consistent-besides : (r : ℕ) → Consistent z nodes (besides z nodes r)
  consistent-besides r =
      record {
        norm = λ j m. (fitting j m).0;
        redundant = λ q q' Q Q' x. equal q Q x ∙ sym (equal q' Q' x);
        position = λ i q m l Q x. at i m l x ∙ sym (same-position i (f nodes q) (f nodes r) (equal q Q) x);
      }
    where
      -- what a member has: it is NORM and fits; a redundant member's f is that of r, a data member's the part of its position
      fitting : (j : ℕ) → has (besides z nodes r) j ≡ true → (is_norm (node_at nodes j).opmode ≡ true) × (fits z nodes r j ≡ true)
      fitting j m = and_both (is_norm (node_at nodes j).opmode) (fits z nodes r j) (set_of-has _ j m)

      equal : (q : ℕ) → Redundant z (besides z nodes r) q → SameSet (f nodes q) (f nodes r)
      equal q Q = same_set (f nodes q) (f nodes r) (rw (lt-leb q z.k Q.beyond) at (fitting q Q.member).1)

      at : (i : ℕ) → has (besides z nodes r) i ≡ true → i ≤ z.k → SameSet (f nodes i) (at_position i (f nodes r))
      at i m l = same_set (f nodes i) (at_position i (f nodes r)) (rw (le-leb i z.k l) at (fitting i m).1)

  -- a set is of kind 0 if it has no redundant member, and of kind r for each redundant member r; the candidate for its kind
  data Kind (set : NodeSet) : ℕ → Type 0 where
    data-only : AllData z set → Kind set 0
    beside : {r : ℕ} → Redundant z set r → Kind set r

  abbrev candidate : {set : NodeSet} {r : ℕ} → Kind set r → NodeSet
  candidate (data-only a) = all_data z nodes
  candidate (beside {r = r} R) = besides z nodes r

  candidate-consistent : {set : NodeSet} {r : ℕ} (K : Kind set r) → Consistent z nodes (candidate K)
  candidate-consistent (data-only a) = consistent-data
  candidate-consistent (beside {r = r} R) = consistent-besides r

  module _ (fit : length nodes ≡ z.n) (n18 : z.n ≤ 18) where
    -- 18 places are enough
    norm-in : (p : ℕ → Bool) (j : ℕ) → is_norm (node_at nodes j).opmode ≡ true → p j ≡ true → has (set_of p) j ≡ true
    norm-in p j norm e = let l = norm-there j norm in has-set_of p j l.0 (omega (arith, l.1)) ∙ e

    within-candidate : {set : NodeSet} {r : ℕ} → Consistent z nodes set → (K : Kind set r) → Within set (candidate K)
    within-candidate {set} C K j m = has-candidate K
      where
        fitting : {r : ℕ} → Redundant z set r → Dec (z.k < j) → fits z nodes r j ≡ true
        fitting {r} R (yes l) = rw (lt-leb j z.k l) (same-ids (f nodes j) (f nodes r) (C.redundant j r (record { member = m; beyond = l }) R))
        fitting {r} R (no n) =
            let l : j ≤ z.k = omega arith in rw (le-leb j z.k l) (same-ids (f nodes j) (at_position j (f nodes r)) (C.position j r m l R))

        has-candidate : {r : ℕ} (K : Kind set r) → has (candidate K) j ≡ true
        has-candidate (data-only a) = norm-in _ j (C.norm j m) (rw (le-leb j z.k (a j m)) (C.norm j m))
        has-candidate (beside R) = norm-in _ j (C.norm j m) (rw (C.norm j m) (fitting R (dec_lt z.k j)))

    size-candidate : {set : NodeSet} {r : ℕ} → Consistent z nodes set → (K : Kind set r) → size set ≤ size (candidate K)
    size-candidate {set} C K = size-within set (candidate K) (within-candidate C K)

    -- ---- `largest z nodes d` is the first of the largest sets of a kind up to k + d

    abbrev UpTo : ℕ → (NodeSet → ℕ → Type 0) → Type 0
    UpTo m P = (other : NodeSet) → Consistent z nodes other → (r : ℕ) → Kind other r → r ≤ m → P other r

    -- "The largest is taken, on a tie" the one of the lower kind: a set of kind q, and another of kind r
    abbrev Before : NodeSet → ℕ → NodeSet → ℕ → Type 0
    Before set q other r = (size other ≤ size set) × (size other ≡ size set → q ≤ r)

    -- the set goes before every consistent set of a kind up to k + d
    record Best (d : ℕ) (set : NodeSet) : Type 0 where
      consistent : Consistent z nodes set
      rank : ℕ
      kind : Kind set rank
      reach : rank ≤ z.k + d
      first : UpTo (z.k + d) (Before set rank)

    best-data : Best 0 (all_data z nodes)
    best-data =
        record {
          consistent = consistent-data;
          rank = 0;
          kind = data-only all-data;
          reach = omega arith;
          first = λ other C r K l. (at other C K l, λ e. omega arith);
        }
      where
        at : (other : NodeSet) → Consistent z nodes other → {r : ℕ} → Kind other r → r ≤ z.k + 0 → size other ≤ size (all_data z nodes)
        at other C (data-only a) l = size-candidate C (data-only a)
        at other C (beside R) l = absurd (omega (arith, R.beyond))

    module _ (d : ℕ) (set : NodeSet) (B : Best d set) where
      abbrev next : ℕ
      next = z.k + suc d

      -- a kind up to next is one up to k + d, or next
      up-to-next : (P : NodeSet → ℕ → Type 0) → UpTo (z.k + d) P
          → ((other : NodeSet) → Consistent z nodes other → Redundant z other next → P other next) → UpTo next P
      up-to-next P lower here other C r K l = by (dec_le r (z.k + d))
        where
          at : {r : ℕ} → Kind other r → r ≡ next → P other r
          at (data-only a) e = absurd (omega arith)
          at (beside R) e = subst (P other) (sym e) (here other C (subst (Redundant z other) e R))

          by : Dec (r ≤ z.k + d) → P other r
          by (yes l') = lower other C r K l'
          by (no n) = at K (omega arith)

      -- the candidate beside next is larger and is taken; or next is not NORM, or its candidate is not larger, and the set stays
      taken : is_norm (node_at nodes next).opmode ≡ true → size set < size (besides z nodes next) → Best (suc d) (besides z nodes next)
      taken norm larger =
          record {
            consistent = consistent-besides next;
            rank = next;
            kind = beside self;
            reach = omega arith;
            first =
                up-to-next (Before (besides z nodes next) next)
                (λ other C r K l. let most = (B.first other C r K l).0 in (omega arith, λ e. absurd (omega arith)))
                (λ other C R. (size-candidate C (beside R), λ e. omega arith));
          }
        where
          self : Redundant z (besides z nodes next) next
          self =
              let l : z.k < next = omega arith in
              let fitting : fits z nodes next next ≡ true = rw (lt-leb next z.k l) (same-ids (f nodes next) (f nodes next) (λ x. refl)) in
              record { member = norm-in _ next norm (rw norm fitting); beyond = l }

      kept : (is_norm (node_at nodes next).opmode ≡ true → size (besides z nodes next) ≤ size set) → Best (suc d) set
      kept smaller =
          record {
            consistent = B.consistent;
            rank = B.rank;
            kind = B.kind;
            reach = omega arith;
            first =
                up-to-next (Before set B.rank) B.first
                (λ other C R. (omega (arith, size-candidate C (beside R), smaller (C.norm next R.member)), λ e. omega arith));
          }

    best : (d : ℕ) → Best d (largest z nodes d)
    unfolding largest
    best zero = best-data
    best (suc d) =
        let r = z.k + suc d in
        let s = largest z nodes d in
        cond_ind (Best (suc d)) (is_norm (node_at nodes r).opmode && ltb (size s) (size (besides z nodes r))) (besides z nodes r) s
        (λ e. let each = and_both _ _ e in taken d s (best d) each.0 (ltb-true _ _ each.1))
        (λ e. kept d s (best d) (λ norm. ltb-false _ _ (rw norm at e)))

    -- ---- it is the set that the document takes, and there is no other

    kind-of : (set : NodeSet) → (r : ℕ) × Kind set r
    kind-of set = by (place z set)
      where
        by : Place z set → (r : ℕ) × Kind set r
        by (inl a) = (0, data-only a)
        by (inr L) = (L.0, beside L.1.holds)

    -- no kind is past n
    reached : {set : NodeSet} {r : ℕ} → Consistent z nodes set → Kind set r → r ≤ z.k + (z.n - z.k)
    reached C (data-only a) = omega arith
    reached C (beside {r = r} R) = omega (arith, (norm-there r (C.norm r R.member)).1)

    best-largest : (set : NodeSet) → Best (z.n - z.k) set → TheLargest z nodes set
    best-largest set B =
        record {
          consistent = B.consistent;
          largest = λ other C. let K = kind-of other in (B.first other C K.0 K.1 (reached C K.1)).0;
          data_first = λ other T a. no-rank B.kind (before other T (data-only a));
          lowest_first = λ other T q r L M. low B.kind L (before other T (beside M.holds));
        }
      where
        before : (other : NodeSet) → Tie z nodes set other → {r : ℕ} → Kind other r → B.rank ≤ r
        before other T {r} K = (B.first other T.consistent r K (reached T.consistent K)).1 T.sizes

        no-rank : {r : ℕ} → Kind set r → r ≤ 0 → AllData z set
        no-rank (data-only a) l = a
        no-rank (beside R) l = absurd (omega (arith, R.beyond))

        low : {p q r : ℕ} → Kind set p → Lowest (Redundant z set) q → p ≤ r → q ≤ r
        low (data-only a) L l = none-redundant z set a L.holds
        low {p} (beside R) L l = omega (arith, L.least p R)

    largest-taken : TheLargest z nodes (largest z nodes (z.n - z.k))
    largest-taken = best-largest (largest z nodes (z.n - z.k)) (best (z.n - z.k))

    -- a set that the document takes is the candidate for its kind
    fills : (set : NodeSet) → TheLargest z nodes set → {r : ℕ} (K : Kind set r) (j : ℕ) → has set j ≡ has (candidate K) j
    fills set T K j =
        let within = within-candidate T.consistent K in
        same_tests (has set j) (has (candidate K) j) (within j) (size-full set (candidate K) within (T.largest (candidate K) (candidate-consistent K)) j)

    one-taken : (s t : NodeSet) → TheLargest z nodes s → TheLargest z nodes t → (j : ℕ) → has s j ≡ has t j
    one-taken s t S T = by (place z s) (place z t)
      where
        s-tie : Tie z nodes t s
        s-tie = record { consistent = S.consistent; sizes = omega (arith, S.largest t T.consistent, T.largest s S.consistent) }

        t-tie : Tie z nodes s t
        t-tie = record { consistent = T.consistent; sizes = sym s-tie.sizes }

        by : Place z s → Place z t → (j : ℕ) → has s j ≡ has t j
        by (inl a) (inl b) j = fills s S (data-only a) j ∙ sym (fills t T (data-only b) j)
        by (inl a) (inr M) j = none-redundant z t (T.data_first s s-tie a) M.1.holds
        by (inr L) (inl b) j = none-redundant z s (S.data_first t t-tie b) L.1.holds
        by (inr L) (inr M) j =
            let e : L.0 ≡ M.0 =
            omega (arith, S.lowest_first t t-tie L.0 M.0 L.1 M.1, T.lowest_first s s-tie M.0 L.0 M.1 L.1) in
            fills s S (beside L.1.holds) j ∙ ap (λ r. has (besides z nodes r) j) e ∙ sym (fills t T (beside M.1.holds) j)

pub the-largest : PicksTheLargest
the-largest = largest-taken

pub the-only : OneLargest
the-only = one-taken
