-- The loops of weights.rt, one turn on. Assumes nothing.
use mathlib.Core.List.{List}
use mathlib.Core.Path.{◌≡◌, refl, sym, ap, ap₂, ◌∙◌}
use mathlib.Core.Logic.{◌≢◌}
use Prim.Native.Nat.{ℕ, zero, suc, ◌+◌, ◌-◌, ◌*◌, ◌/◌, ◌%◌, ◌≤◌, ◌<◌}
use native.Mathlib.Decide.{ℕ_discrete, dec_lt}
use native.Mathlib.Nat.{zero-add, add-zero, add-suc}
use native.Mathlib.Numerals.{add-one}
use native.Mathlib.Omega.{arith}
use lib.ListN.{length, get_or, take, set, length-set}
use lib.Seq.{length-take-le, get_or-take, get_or-set_same, get_or-set_other}
use borrow.Author.Tests.{eq-eqb, ne_eqb}
use Rattle.gf256.specs.Field.{product, inverse, power}
use Rattle.gf256.proofs.Laws.{product-byte, product-comm, product-left, one_product, power-add, power-turns, power-mod, inverse-by-logarithm, inverse-cancel}
use Rattle.kernel.specs.Combine.{nth, Nodes}
use Rattle.code.specs.Decode.{others, scale, recover, recovered}
use Rattle.coding.specs.Weights.{Apart, ApartBut, ApartIn, Rising, First, factors, share, IsShare}
use Rattle.code.proofs.Factors.{others-all, others-nonzero}
use Rattle.gf256.proofs.Ring.{◌⊕◌, ◌⊗◌, ring, Nonzero}
use Rattle.code.proofs.Points.{apart}
use Rattle.gf256.proofs.Sum.{All, sum-ext}

nth-next : (xs : List ℕ) (l : ℕ) → nth xs (suc l) ≡ get_or xs l 0
nth-next xs l = let e : suc l - 1 ≡ l = omega arith in rw e

-- ---- logarithms

-- that of a quotient
pub power-over : (a b : ℕ) → b ≤ 3048 → power (a + (3060 - b)) ≡ power a ⊗ inverse (power b)
power-over a b l =
    let whole : 3060 - b ≡ (11 - b / 255) * 255 + (255 - b % 255) = omega arith in
    power-add a (3060 - b)
    ∙ ap (λ x. power a ⊗ x) (ap power whole ∙ power-turns (11 - b / 255) (255 - b % 255) ∙ inverse-by-logarithm (b % 255) (power b) (omega arith) (power-mod b))

-- the points of nodes l and j differ
pub points-apart : (nodes : List ℕ) → Nodes nodes → ((l : ℕ) → get_or nodes l 0 < 256) → (j l : ℕ) → 1 ≤ j → j ≤ 256 → l < length nodes → get_or nodes l 0 ≢ j
    → Nonzero ((j - 1) ⊕ (get_or nodes l 0 - 1))
points-apart nodes n bytes j l j1 jl h d = apart j (get_or nodes l 0) j1 jl (n.from l h) (omega (arith, bytes l)) (λ e. d (sym e))

-- one factor more
pub factors-turn : (nodes : List ℕ) (a l t r m : ℕ) → a ≤ l → power r ≡ factors (nth nodes) a (l - a) t → power m ≡ t ⊕ (get_or nodes l 0 - 1)
    → power (r + m) ≡ factors (nth nodes) a (l + 1 - a) t
unfolding factors
factors-turn nodes a l t r m h er em =
    let more : l + 1 - a ≡ suc (l - a) = omega arith in
    let at : a + suc (l - a) ≡ suc l = omega arith in
    power-add r m ∙ ap₂ product er em ∙ product-comm (factors (nth nodes) a (l - a) t) (t ⊕ (get_or nodes l 0 - 1))
    ∙ rw (more, factors, at, nth-next nodes l)

factors-byte : (s : ℕ → ℕ) (a n t : ℕ) → factors s a n t < 256
unfolding factors
factors-byte s a zero t = omega arith
factors-byte s a (suc n) t = product-byte (t ⊕ (s (a + suc n) - 1)) (factors s a n t)

-- the products without the qth factor, and with all of them, by spans
module _ (s : ℕ → ℕ) (t : ℕ) where
  pub others-none : (k q : ℕ) → k < q → others s k q t ≡ factors s 0 k t
  unfolding others factors
  others-none zero q l = refl
  others-none (suc k) q l = rw (others, ne_eqb q (suc k) (omega arith), others-none k q (omega arith), zero-add (suc k))

  pub others-split : (q n : ℕ) → others s (suc q + n) (suc q) t ≡ factors s 0 q t ⊗ factors s (suc q) n t
  unfolding others factors
  others-split q zero =
      rw (add-zero (suc q), others, eq-eqb (suc q) (suc q) refl, others-none q (suc q) (omega arith))
      (sym (product-comm (factors s 0 q t) 1 ∙ one_product (factors s 0 q t) (factors-byte s 0 q t)))
  others-split q (suc n) =
      let at : suc q + suc n ≡ suc (suc q + n) = add-suc (suc q) n in
      let last = t ⊕ (s (suc (suc q + n)) - 1) in
      let step : others s (suc (suc q + n)) (suc q) t ≡ last ⊗ (factors s 0 q t ⊗ factors s (suc q) n t) =
      rw (others, ne_eqb (suc q) (suc (suc q + n)) (omega arith), others-split q n) in
      ap (λ k. others s k (suc q) t) at ∙ step ∙ product-left last (factors s 0 q t) (factors s (suc q) n t)
      ∙ ap (λ k. factors s 0 q t ⊗ ((t ⊕ (s k - 1)) ⊗ factors s (suc q) n t)) (sym at)

  -- as the code cuts them: the two spans beside the qth, and the one of all
  pub two-spans : (k q : ℕ) → 1 ≤ q → q ≤ k → factors s 0 (q - 1 - 0) t ⊗ factors s q (k - q) t ≡ others s k q t
  two-spans k q q1 qk =
      let first : q - 1 - 0 ≡ q - 1 = omega arith in
      let here : suc (q - 1) ≡ q = omega arith in
      let whole : suc (q - 1) + (k - q) ≡ k = omega arith in
      rw first (sym (rw (whole, here) at (others-split (q - 1) (k - q))))

  pub one_span : (k q : ℕ) → k < q → factors s 0 (k - 0) t ≡ others s k q t
  one_span k q past = let whole : k - 0 ≡ k = omega arith in rw whole (sym (others-none k q past))

-- the product depends on the first k nodes alone
pub others-ext : (s r : ℕ → ℕ) (k q t : ℕ) → All k (λ l. s l ≡ r l) → others s k q t ≡ others r k q t
unfolding others
others-ext s r zero q t e = refl
others-ext s r (suc k) q t e =
    rw (others, e (suc k) (omega arith) (omega arith), others-ext s r k q t (λ l l1 lk. e l l1 (omega arith)))

-- at a point apart from all nodes the product without the qth is that over all, with the factor of the qth taken out
pub others_apart : (s : ℕ → ℕ) (k q t : ℕ) → 1 ≤ q → q ≤ k → All k (λ l. Nonzero (t ⊕ (s l - 1)))
    → others s k q t ≡ inverse (t ⊕ (s q - 1)) ⊗ others s k (k + 1) t
others_apart s k q t q1 qk far =
    let d = far q q1 qk in
    sym (inverse-cancel (t ⊕ (s q - 1)) (others s k q t) d.0 d.1 (others-nonzero s k q t (λ l l1 lk h. far l l1 lk)).1)
    ∙ ap (λ x. inverse (t ⊕ (s q - 1)) ⊗ x) (others-all s k q (k + 1) t q1 qk (omega arith))

pub recover-apart : (s : ℕ → ℕ) (k j q : ℕ) → 1 ≤ q → q ≤ k → All k (λ l. Nonzero ((j - 1) ⊕ (s l - 1)))
    → (share k s q ⊗ inverse ((j - 1) ⊕ (s q - 1))) ⊗ (others s k (k + 1) (j - 1) ⊗ inverse (scale k j)) ≡ recover k s j q
unfolding recover
recover-apart s k j q q1 qk far = rw (others_apart s k q (j - 1) q1 qk far) (simp ring)

module _ (nodes : List ℕ) (n : Nodes nodes) (bytes : (l : ℕ) → get_or nodes l 0 < 256) (j : ℕ) (j1 : 1 ≤ j) (jl : j ≤ 256) (a : Apart nodes j) where
  pub recover-turn : (q : ℕ) → q < length nodes → (share-log own all : ℕ) → own < 255 → IsShare nodes (suc q) share-log
      → power own ≡ (j - 1) ⊕ (get_or nodes q 0 - 1)
      → power all ≡ others (nth nodes) (length nodes) (length nodes + 1) (j - 1) ⊗ inverse (scale (length nodes) j)
      → power (share-log + (255 - own) + all) ≡ recover (length nodes) (nth nodes) j (q + 1)
  recover-turn q l share-log own all small is eo ea =
      power-add (share-log + (255 - own)) all
      ∙ rw (power-add share-log (255 - own), is.power_is, inverse-by-logarithm own ((j - 1) ⊕ (get_or nodes q 0 - 1)) small eo, ea, ← nth-next nodes q, add-one q)
      (recover-apart (nth nodes) (length nodes) j (suc q) (omega arith) (omega arith)
      (λ i i1 ik. points-apart nodes n bytes j (i - 1) j1 jl (omega arith) (a (i - 1) (omega arith))))

-- a node of rising nodes is none of the others
pub rising-apart : (nodes : List ℕ) → Rising nodes → (q : ℕ) → 1 ≤ q → q ≤ length nodes → ApartBut nodes q (get_or nodes (q - 1) 0)
rising-apart nodes up q q1 qk l h d = by (dec_lt l (q - 1))
  where
    by : Dec (l < q - 1) → get_or nodes l 0 ≢ get_or nodes (q - 1) 0
    by (yes b) = omega (arith, up.rises l (q - 1) b (omega arith))
    by (no b) = omega (arith, up.rises (q - 1) l (omega arith) h)

-- the loop over the shares
pub record Shared (nodes : List ℕ) (i : ℕ) (r : List ℕ) : Type 0 where
  pub size : length r ≡ 12
  pub done : (q : ℕ) → q < i → IsShare nodes (suc q) (get_or r q 0)

pub shared-turn : (nodes : List ℕ) (i : ℕ) (r : List ℕ) (v : ℕ) → i < 12 → IsShare nodes (i + 1) v → Shared nodes i r → Shared nodes (i + 1) (set r i v)
shared-turn nodes i r v l is s = record { size = length-set r i v ∙ s.size; done = λ q h. by q h (ℕ_discrete q i) }
  where
    by : (q : ℕ) → q < i + 1 → Dec (q ≡ i) → IsShare nodes (suc q) (get_or (set r i v) q 0)
    by q h (yes e) = rw (e, get_or-set_same r i v 0 (omega (arith, s.size)), ← add-one i) is
    by q h (no d) = rw (get_or-set_other r i q v 0 d) (s.done q (omega arith))

-- ---- the data nodes, 1 to k

module _ (nodes : List ℕ) (f : First nodes) (k : ℕ) (k12 : k ≤ 12) where
  pub data-length : length (take k nodes) ≡ k
  data-length = length-take-le k nodes (omega (arith, f.twelve))

  pub data-at : (q : ℕ) → q < k → get_or (take k nodes) q 0 ≡ suc q
  data-at q l = get_or-take k nodes q 0 l ∙ f.at q (omega arith)

  pub data-nth : All k (λ q. nth (take k nodes) q ≡ q)
  data-nth q q1 qk = let e : suc (q - 1) ≡ q = omega arith in data-at (q - 1) (omega arith) ∙ e

  pub data-nodes : Nodes (take k nodes)
  data-nodes = record { few = omega (arith, data-length); from = λ l h. omega (arith, data-at l (omega (arith, data-length))) }

  pub data-apart : (j : ℕ) → ApartBut (take k nodes) j j
  data-apart j l h d = omega (arith, data-at l (omega (arith, data-length)))

  pub data-past : (j : ℕ) → k < j → ApartIn (take k nodes) 0 k j
  data-past j past l h lk = omega (arith, data-at l lk)

  pub scale-data : (j : ℕ) → others (nth (take k nodes)) (length (take k nodes)) j (j - 1) ≡ scale k j
  unfolding scale
  scale-data j = rw data-length (others-ext (nth (take k nodes)) (λ i. i) k j (j - 1) data-nth)

  pub scale-past : (j : ℕ) → k < j → factors (nth (take k nodes)) 0 (k - 0) (j - 1) ≡ scale k j
  scale-past j past =
      one_span (nth (take k nodes)) (j - 1) k j past ∙ ap (λ n. others (nth (take k nodes)) n j (j - 1)) (sym data-length) ∙ scale-data j

-- what is recovered depends on the first k nodes alone
pub recovered-nodes : (s r : ℕ → ℕ) (k : ℕ) (f : ℕ → ℕ) (j : ℕ) → All k (λ q. s q ≡ r q)
    → recovered k s (λ q. f (s q)) j ≡ recovered k r (λ q. f (r q)) j
unfolding recovered recover
recovered-nodes s r k f j e =
    sum-ext k _ _ (λ q q1 qk. rw (others-ext s r k q (s q - 1) e, others-ext s r k q (j - 1) e, e q q1 qk))
