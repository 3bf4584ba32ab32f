-- Any k nodes determine the data, and `recovered` gives them: the theorems on decoding and rebuilding one byte. Assumes nothing.
-- Node j has the point j − 1. The bytes of a codeword, each times its node's `scale`, are the values at the points of one polynomial function of
-- degree below k (poly-node), and so is what is recovered (recovered-poly). Two such functions that agree at k points agree (same-values).
use mathlib.Core.Logic.{◌≢◌}
use mathlib.Core.Path.{◌≡◌, sym, ◌∙◌}
use Prim.Native.Nat.{ℕ, ◌-◌, ◌%◌, ◌≤◌, ◌<◌}
use native.Mathlib.Decide.{dec_le}
use native.Mathlib.Omega.{arith}
use Rattle.gf256.specs.Field.{inverse}
use Rattle.gf256.proofs.Laws.{product-add, product-left, product-byte, product-low, product-zero, one_product}
use Rattle.gf256.proofs.Xor.{xor_self}
use Rattle.code.specs.Code.{coefficient, symbol}
use Rattle.code.specs.Decode.{others, scale, recover, recovered}
use Rattle.gf256.proofs.Ring.{◌⊕◌, ◌⊗◌, ring, one-times, sum-zero-eq, Nonzero, inverse-times, undo}
use Rattle.code.proofs.Points.{apart}
use Rattle.gf256.proofs.Sum.{All, sum-ext, sum-times, sum-byte}
use Rattle.code.proofs.Degree.{Degree, degree-add, roots}
use Rattle.code.proofs.Factors.{others-all, others-nonzero, poly, poly-degree, poly-at}
use Rattle.code.proofs.Symbols.{symbol-data, symbol-redundant, symbol-byte}

-- s 1, .. s k are k distinct nodes
pub record Chosen (k : ℕ) (s : ℕ → ℕ) : Type 0 where
  pub from : All k (λ q. 1 ≤ s q)
  pub to : All k (λ q. s q ≤ 256)
  pub distinct : All k (λ p. All k (λ q. p ≢ q → s p ≢ s q))

chosen-apart : (k : ℕ) (s : ℕ → ℕ) → Chosen k s → All k (λ p. All k (λ q. p ≢ q → Nonzero ((s p - 1) ⊕ (s q - 1))))
chosen-apart k s c p p1 pk q q1 qk h =
    apart (s p) (s q) (c.from p p1 pk) (c.to p p1 pk) (c.from q q1 qk) (c.to q q1 qk) (c.distinct p p1 pk q q1 qk h)

-- the data nodes
data-chosen : (k : ℕ) → k ≤ 256 → Chosen k (λ i. i)
data-chosen k lk = record { from = λ q q1 qk. q1; to = λ q q1 qk. omega arith; distinct = λ p p1 pk q q1 qk h. h }

-- polynomial functions of degree below k that agree at k points agree, under a factor
same-values : (k : ℕ) (s f g : ℕ → ℕ) → Chosen k s → Degree k f → Degree k g
    → All k (λ q. 1 ⊗ f (s q - 1) ≡ 1 ⊗ g (s q - 1)) → (u t : ℕ) → u ⊗ f t ≡ u ⊗ g t
same-values k s f g c df dg e u t =
    let none : 1 ⊗ (f t ⊕ g t) ≡ 0 =
    roots k (λ t. f t ⊕ g t) (λ q. s q - 1) (degree-add k f g df dg) (chosen-apart k s c)
    (λ q q1 qk. product-add 1 (f (s q - 1)) (g (s q - 1)) ∙ rw (e q q1 qk) (xor_self (1 ⊗ g (s q - 1)))) t in
    sum-zero-eq (u ⊗ f t) (u ⊗ g t)
    (sym (product-add u (f t) (g t)) ∙ sym (one-times u (f t ⊕ g t)) ∙ product-left 1 u (f t ⊕ g t) ∙ rw none (product-zero u))

-- ---- the codeword's polynomial

scale-inverse : (k j : ℕ) → k ≤ 256 → 1 ≤ j → j ≤ 256 → inverse (scale k j) ⊗ scale k j ≡ 1
unfolding scale
scale-inverse k j lk j1 lj =
    inverse-times (others (λ i. i) k j (j - 1))
    (others-nonzero (λ i. i) k j (j - 1) (λ l l1 ll h. apart j l j1 lj l1 (omega arith) (λ e. h (sym e))))

-- at the point of node j it is the scale of j times what j holds
poly-node : (k j : ℕ) (x : ℕ → ℕ) → k ≤ 256 → 1 ≤ j → j ≤ 256 → poly (λ i. i) k x (j - 1) ≡ scale k j ⊗ symbol k j x
unfolding scale poly coefficient
poly-node k j x lk j1 lj = by (dec_le j k)
  where
    term : (c v n x : ℕ) → v ⊗ c ≡ 1 → n ⊗ x ≡ c ⊗ n ⊗ (v ⊗ x)
    term c v n x e = sym (one-times n x) ∙ rw (← e) (simp ring)

    by : Dec (j ≤ k) → poly (λ i. i) k x (j - 1) ≡ others (λ i. i) k j (j - 1) ⊗ symbol k j x
    by (yes l) = rw (symbol-data k j x l) (poly-at (λ i. i) k x j j1 l)
    by (no n) =
        let all : ℕ = others (λ i. i) k j (j - 1) in
        rw (symbol-redundant k j x (omega arith), ← sum-times k all (λ i. coefficient j i ⊗ x i))
        (sum-ext k (λ i. others (λ i. i) k i (j - 1) ⊗ x i) (λ i. all ⊗ (coefficient j i ⊗ x i))
        (λ i i1 ik. rw (← others-all (λ i. i) k i j (j - 1) i1 ik (omega arith))
        (term ((j - 1) ⊕ (i - 1)) (coefficient j i) (others (λ i. i) k i (j - 1)) (x i)
        (inverse-times ((j - 1) ⊕ (i - 1)) (apart j i j1 lj i1 (omega arith) (omega arith))))))

-- ---- what is recovered

-- it depends on the low bytes of y 1, .. y k, and is a byte
module _ (k : ℕ) (s : ℕ → ℕ) where
  pub recovered-ext : (y z : ℕ → ℕ) (j : ℕ) → All k (λ q. y q ≡ z q) → recovered k s y j ≡ recovered k s z j
  unfolding recovered
  recovered-ext y z j e =
      sum-ext k (λ q. recover k s j q ⊗ y q) (λ q. recover k s j q ⊗ z q) (λ q q1 qk. rw (e q q1 qk))

  pub recovered-low : (y : ℕ → ℕ) (j : ℕ) → recovered k s (λ q. y q % 256) j ≡ recovered k s y j
  unfolding recovered
  recovered-low y j =
      sum-ext k (λ q. recover k s j q ⊗ (y q % 256)) (λ q. recover k s j q ⊗ y q) (λ q q1 qk. product-low (recover k s j q) (y q))

  pub recovered-byte : (y : ℕ → ℕ) (j : ℕ) → recovered k s y j < 256
  unfolding recovered
  recovered-byte y j = sum-byte k (λ q. recover k s j q ⊗ y q) (λ q q1 qk. product-byte (recover k s j q) (y q))

module _ (k : ℕ) (s : ℕ → ℕ) (lk : k ≤ 256) (c : Chosen k s) (y : ℕ → ℕ) where
  -- the polynomial through what the chosen nodes hold
  abbrev part : ℕ → ℕ
  part q = scale k (s q) ⊗ inverse (others s k q (s q - 1)) ⊗ y q

  through : All k (λ q. poly s k part (s q - 1) ≡ scale k (s q) ⊗ y q)
  through q q1 qk =
      poly-at s k part q q1 qk
      ∙ swap (others s k q (s q - 1)) (inverse (others s k q (s q - 1))) (scale k (s q)) (y q)
      (inverse-times (others s k q (s q - 1))
      (others-nonzero s k q (s q - 1) (λ l l1 lk h. chosen-apart k s c q q1 qk l l1 lk (λ e. h (sym e)))))
    where
      swap : (w v a b : ℕ) → v ⊗ w ≡ 1 → w ⊗ (a ⊗ v ⊗ b) ≡ a ⊗ b
      swap w v a b e = sym (sym (one-times a b) ∙ rw (← e) (simp ring))

  recovered-poly : (j : ℕ) → recovered k s y j ≡ inverse (scale k j) ⊗ poly s k part (j - 1)
  unfolding recovered recover poly
  recovered-poly j =
      sum-ext k (λ q. recover k s j q ⊗ y q) (λ q. inverse (scale k j) ⊗ (others s k q (j - 1) ⊗ part q)) (λ q q1 qk. simp ring)
      ∙ sum-times k (inverse (scale k j)) (λ q. others s k q (j - 1) ⊗ part q)

  -- a node that is present comes back as it is
  pub recovered-present : (q : ℕ) → 1 ≤ q → q ≤ k → y q < 256 → recovered k s y (s q) ≡ y q
  recovered-present q q1 qk b =
      recovered-poly (s q)
      ∙ rw (through q q1 qk)
      (undo (inverse (scale k (s q))) (scale k (s q)) (y q) (scale-inverse k (s q) lk (c.from q q1 qk) (c.to q q1 qk)) ∙ one_product (y q) b)

  -- data x whose polynomial agrees at k points with the one through the chosen nodes: their codeword is what is recovered
  same-codeword : (x m : ℕ → ℕ) → All k (λ i. x i < 256) → Chosen k m
      → All k (λ q. 1 ⊗ poly s k part (m q - 1) ≡ 1 ⊗ poly (λ i. i) k x (m q - 1))
      → All 256 (λ j. recovered k s y j ≡ symbol k j x)
  same-codeword x m bytes cm e j j1 lj =
      recovered-poly j
      ∙ same-values k m (poly s k part) (poly (λ i. i) k x) cm (poly-degree s k part) (poly-degree (λ i. i) k x) e (inverse (scale k j)) (j - 1)
      ∙ rw (poly-node k j x lk j1 lj)
      (undo (inverse (scale k j)) (scale k j) (symbol k j x) (scale-inverse k j lk j1 lj) ∙ one_product (symbol k j x) (symbol-byte k j x j1 bytes))

  -- what is recovered is a codeword
  pub recovered-codeword : All 256 (λ j. recovered k s y j ≡ symbol k j (recovered k s y))
  recovered-codeword =
      same-codeword (recovered k s y) (λ i. i) (λ i i1 ik. recovered-byte k s y i) (data-chosen k lk)
      (λ i i1 ik.
      sym (rw (poly-node k i (recovered k s y) lk i1 (omega arith), symbol-data k i (recovered k s y) ik, recovered-poly i)
      (back (inverse (scale k i)) (scale k i) (poly s k part (i - 1)) (scale-inverse k i lk i1 (omega arith)))))
    where
      back : (v w a : ℕ) → v ⊗ w ≡ 1 → 1 ⊗ (w ⊗ (v ⊗ a)) ≡ 1 ⊗ a
      back v w a e = rw (product-left w v a, undo v w a e) (one-times 1 a)

  -- DECODING: of the data recovered, the chosen nodes hold what was given
  pub recover-agrees : (q : ℕ) → 1 ≤ q → q ≤ k → y q < 256 → symbol k (s q) (recovered k s y) ≡ y q
  recover-agrees q q1 qk b = sym (recovered-codeword (s q) (c.from q q1 qk) (c.to q q1 qk)) ∙ recovered-present q q1 qk b

  -- REBUILDING: where of the data x the chosen nodes hold y, every node holds what is recovered
  pub recover-symbol : (x : ℕ → ℕ) → All k (λ i. x i < 256) → All k (λ q. symbol k (s q) x ≡ y q)
      → All 256 (λ j. recovered k s y j ≡ symbol k j x)
  recover-symbol x bytes holds =
      same-codeword x s bytes c
      (λ q q1 qk. rw (poly-node k (s q) x lk (c.from q q1 qk) (c.to q q1 qk), holds q q1 qk, through q q1 qk))

  -- UNIQUENESS: no other data have this
  pub recover-only : (x : ℕ → ℕ) → All k (λ i. x i < 256) → All k (λ q. symbol k (s q) x ≡ y q)
      → All k (λ i. recovered k s y i ≡ x i)
  recover-only x bytes holds i i1 ik = recover-symbol x bytes holds i i1 (omega arith) ∙ symbol-data k i x ik
