-- Records put one after the other into a buffer. One law for the nodes and the clients. Assumes nothing.
use mathlib.Core.Path.{◌≡◌, refl, sym, ap, subst, ◌∙◌}
use mathlib.Core.List.{List, ◌++◌}
use Prim.Native.Nat.{ℕ, ◌+◌, ◌*◌, ◌≤◌, ◌<◌}
use native.Mathlib.Decide.{ℕ_discrete}
use native.Mathlib.Nat.{suc-mul, mul-le-mul_right}
use native.Mathlib.Numerals.{add-one}
use native.Mathlib.Omega.{arith}
use lib.ListN.{length, take, get_or}
use Rattle.std.proofs.lemmas.List.{get_or_default, get_or-take, length-take-le}
use Rattle.std.specs.List.{All}
use Rattle.basics.specs.Lists.{list_of}
use Rattle.octets.specs.Octets.{joined, Put}
use Rattle.octets.proofs.Filling.{Filled, fill_start, fill-item, filled_put}
use Rattle.octets.proofs.Pieces.{length-joined, joined-list, joined-cong}

-- item j has the w bytes f j, and they stand from `at` on
module _ (w n : ℕ) (f : ℕ → List ℕ) (long : (j : ℕ) → length (f j) ≡ w) (old : List ℕ) (at : ℕ) where
  -- the first i of n are in the buffer
  pub record Items (i : ℕ) (out : List ℕ) : Type 0 where
    pub filled : Filled (length old) (at + i * w) (take at old ++ joined i f) out
    pub few : i ≤ n

  pub items-none : Items 0 old
  items-none = record { filled = fill_start old at (at + 0 * w) f (omega arith); few = omega arith }

  pub items_more : {i : ℕ} {out v new : List ℕ} → Items i out → Put out (at + i * w) v new → i < n → v ≡ f i → Items (i + 1) new
  items_more {i} s p l e =
      let next : at + i * w + w ≡ at + (i + 1) * w = rw (add-one i) (omega (arith, suc-mul i w)) in
      record { filled = fill-item w (at + (i + 1) * w) i (take at old) f s.filled p e (long i) next; few = omega arith }

  -- there is room for item i
  pub items-room : {i : ℕ} {out v : List ℕ} → Items i out → i < n → v ≡ f i → at + n * w ≤ length old → at + i * w + length v ≤ length out
  items-room {i} {out} {v} s l e room =
      let here : (i + 1) * w ≤ n * w = mul-le-mul_right w (omega (arith, l)) in
      let more : (i + 1) * w ≡ i * w + w = rw (add-one i) (omega (arith, suc-mul i w)) in
      omega (arith, here, more, room, s.filled.long, ap length e ∙ long i)

  pub items-all : {i : ℕ} {out : List ℕ} → Items i out → n ≤ i → Put old at (joined n f) out
  items-all {i} {out} s l =
      let e : i ≡ n = omega (arith, s.few) in
      filled_put (rw e at s.filled) (ap (λ k. at + k) (length-joined w n f (λ j k. long j)))

-- the records of a table, each as its w bytes: the first i are in the buffer
module _ {T : Type 0} (w : ℕ) (shown : T → List ℕ) (records : List T) (old : List ℕ) (at : ℕ) where
  pub record Stand (i : ℕ) (out : List ℕ) : Type 0 where
    pub few : i ≤ length records
    pub long : length out ≡ length old
    pub sized : (j : ℕ) (d : T) → j < i → length (shown (get_or records j d)) ≡ w
    pub filled : (d : T) → Filled (length old) (at + i * w) (take at old ++ joined i (λ j. shown (get_or records j d))) out

  pub none-stand : Stand 0 old
  none-stand = record {
    few = omega arith;
    long = refl;
    sized = λ j d l. absurd (omega (arith, l));
    filled = λ d. fill_start old at (at + 0 * w) (λ j. shown (get_or records j d)) (omega arith);
  }

  pub more-stand : (e : T) {i : ℕ} {out v new : List ℕ} → Stand i out → Put out (at + i * w) v new → i < length records → v ≡ shown (get_or records i e)
      → length v ≡ w → Stand (i + 1) new
  more-stand e {i} {out} {v} s p l h wide =
      let next : at + i * w + w ≡ at + (i + 1) * w = rw (add-one i) (omega (arith, suc-mul i w)) in
      record {
        few = omega arith;
        long = p.long ∙ s.long;
        sized = sized;
        filled = λ d. fill-item w (at + (i + 1) * w) i (take at old) (λ j. shown (get_or records j d)) (s.filled d) p (is d) (sym (ap length (is d)) ∙ wide) next;
      }
    where
      is : (d : T) → v ≡ shown (get_or records i d)
      is d = h ∙ ap shown (get_or_default records i e d l)

      sized : (j : ℕ) (d : T) → j < i + 1 → length (shown (get_or records j d)) ≡ w
      sized j d k = by (ℕ_discrete j i)
        where
          by : Dec (j ≡ i) → length (shown (get_or records j d)) ≡ w
          by (yes q) = rw q (sym (ap length (is d)) ∙ wide)
          by (no ne) = s.sized j d (omega (arith, k, ne))

  pub all-stand : {i : ℕ} {out : List ℕ} → Stand i out → length records ≤ i → (d : T)
      → Put old at (joined (length records) (λ j. shown (get_or records j d))) out
  all-stand {i} {out} s l d =
      let e : i ≡ length records = omega (arith, s.few) in
      filled_put (rw e at (s.filled d)) (ap (λ k. at + k) (length-joined w (length records) (λ j. shown (get_or records j d)) (λ j k. s.sized j d (rw e k))))

-- the first n items of an array are the list of what they are seen as
pub joined-first : {R A : Type 0} (f : R → A) (blank : R) (d : A) (shown : A → List ℕ) (n : ℕ) (xs : List R) → n ≤ length xs
    → joined (length (take n xs)) (λ i. shown (f (get_or (take n xs) i blank)))
    ≡ joined (length (list_of n (λ i. f (get_or xs i blank)))) (λ i. shown (get_or (list_of n (λ i. f (get_or xs i blank))) i d))
joined-first f blank d shown n xs h =
    ap (λ k. joined k (λ i. shown (f (get_or (take n xs) i blank)))) (length-take-le n xs h)
    ∙ joined-cong n (λ i. shown (f (get_or (take n xs) i blank))) (λ i. shown (f (get_or xs i blank))) (λ i l. ap (λ r. shown (f r)) (get_or-take n xs i blank l))
    ∙ sym (joined-list n (λ i. f (get_or xs i blank)) d shown)

pub put-first : {R A : Type 0} (f : R → A) (blank : R) (d : A) (shown : A → List ℕ) (n : ℕ) (xs : List R) → n ≤ length xs → {old new : List ℕ} {at : ℕ}
    → ((e : R) → Put old at (joined (length (take n xs)) (λ i. shown (f (get_or (take n xs) i e)))) new)
    → Put old at (joined (length (list_of n (λ i. f (get_or xs i blank)))) (λ i. shown (get_or (list_of n (λ i. f (get_or xs i blank))) i d))) new
put-first f blank d shown n xs h {old} {new} {at} p = subst (λ (v : List ℕ). Put old at v new) (joined-first f blank d shown n xs h) (p blank)

-- what holds of each of the first n items
pub each-first : {R : Type 0} (P : R → Type 0) (blank : R) (n : ℕ) (xs : List R) → n ≤ length xs → ((i : ℕ) → i < n → P (get_or xs i blank)) → All P (take n xs)
each-first P blank n xs h each k d l =
    let here : k < n = omega (arith, l, length-take-le n xs h) in
    subst P (sym (get_or-take n xs k d here ∙ get_or_default xs k d blank (omega (arith, here, h)))) (each k here)
