-- What a node holds of one byte of each data block: the laws of `symbol`. Assumes nothing.
use mathlib.Core.Logic.{◌≢◌}
use mathlib.Core.Path.{◌≡◌, sym, ◌∙◌}
use Prim.Native.Nat.{ℕ, ◌%◌, ◌≤◌, ◌<◌}
use native.Mathlib.Decide.{dec_le}
use native.Mathlib.Omega.{arith}
use borrow.Author.Tests.{le-leb, lt-leb}
use Rattle.gf256.proofs.Laws.{product-add, product-zero, product-byte, product-low, byte_low}
use Rattle.gf256.proofs.Xor.{xor_self}
use Rattle.code.specs.Code.{sum, coefficient, symbol}
use Rattle.gf256.proofs.Ring.{◌⊕◌, ◌⊗◌, ring}
use Rattle.gf256.proofs.Sum.{All, sum-ext, sum-zero, sum-add, sum_one, sum-byte}

module _ (k j : ℕ) where
  pub symbol-data : (x : ℕ → ℕ) → j ≤ k → symbol k j x ≡ x j
  unfolding symbol
  symbol-data x l = rw (le-leb j k l)

  pub symbol-redundant : (x : ℕ → ℕ) → k < j → symbol k j x ≡ sum k (λ i. coefficient j i ⊗ x i)
  unfolding symbol
  symbol-redundant x l = rw (lt-leb j k l)

  -- only the bytes of data nodes count
  pub symbol-ext : (x y : ℕ → ℕ) → 1 ≤ j → All k (λ i. x i ≡ y i) → symbol k j x ≡ symbol k j y
  symbol-ext x y j1 e = by (dec_le j k)
    where
      by : Dec (j ≤ k) → symbol k j x ≡ symbol k j y
      by (yes l) = rw (symbol-data x l, symbol-data y l) (e j j1 l)
      by (no n) =
          rw (symbol-redundant x (omega arith), symbol-redundant y (omega arith))
          (sum-ext k (λ i. coefficient j i ⊗ x i) (λ i. coefficient j i ⊗ y i) (λ i i1 ik. rw (e i i1 ik)))

  pub symbol-zero : (x : ℕ → ℕ) → 1 ≤ j → All k (λ i. x i ≡ 0) → symbol k j x ≡ 0
  symbol-zero x j1 z = by (dec_le j k)
    where
      by : Dec (j ≤ k) → symbol k j x ≡ 0
      by (yes l) = symbol-data x l ∙ z j j1 l
      by (no n) =
          symbol-redundant x (omega arith)
          ∙ sum-zero k (λ i. coefficient j i ⊗ x i) (λ i i1 ik. rw (z i i1 ik) (product-zero (coefficient j i)))

  -- a redundant node takes c(j,i) times the difference at data node i
  pub symbol-change : (x y : ℕ → ℕ) (i : ℕ) → k < j → 1 ≤ i → i ≤ k → All k (λ l. l ≢ i → y l ≡ x l)
      → symbol k j y ≡ symbol k j x ⊕ coefficient j i ⊗ (y i ⊕ x i)
  symbol-change x y i lj i1 ik e =
      let of-x : ℕ → ℕ = λ l. coefficient j l ⊗ x l in
      let of-y : ℕ → ℕ = λ l. coefficient j l ⊗ y l in
      let rest : (l : ℕ) → 1 ≤ l → l ≤ k → l ≢ i → of-y l ⊕ of-x l ≡ 0 = λ l l1 lk h. rw (e l l1 lk h) (xor_self (of-x l)) in
      rw (symbol-redundant x lj, symbol-redundant y lj, product-add (coefficient j i) (y i) (x i), ← sum_one k (λ l. of-y l ⊕ of-x l) i i1 ik rest, sum-add k of-y of-x)
      (simp ring)

  -- ---- bytes: a redundant node takes the low bytes and holds a byte

  pub redundant-byte : (x : ℕ → ℕ) → k < j → symbol k j x < 256
  redundant-byte x l =
      rw (symbol-redundant x l) (sum-byte k (λ i. coefficient j i ⊗ x i) (λ i i1 ik. product-byte (coefficient j i) (x i)))

  pub redundant-low : (x : ℕ → ℕ) → k < j → symbol k j (λ i. x i % 256) ≡ symbol k j x
  redundant-low x l =
      rw (symbol-redundant (λ i. x i % 256) l, symbol-redundant x l)
      (sum-ext k (λ i. coefficient j i ⊗ (x i % 256)) (λ i. coefficient j i ⊗ x i) (λ i i1 ik. product-low (coefficient j i) (x i)))

  pub symbol-byte : (x : ℕ → ℕ) → 1 ≤ j → All k (λ i. x i < 256) → symbol k j x < 256
  symbol-byte x j1 b = by (dec_le j k)
    where
      by : Dec (j ≤ k) → symbol k j x < 256
      by (yes l) = rw (symbol-data x l) (b j j1 l)
      by (no n) = redundant-byte x (omega arith)

  pub symbol_low : (x : ℕ → ℕ) → symbol k j (λ i. x i % 256) ≡ symbol k j x % 256
  symbol_low x = by (dec_le j k)
    where
      by : Dec (j ≤ k) → symbol k j (λ i. x i % 256) ≡ symbol k j x % 256
      by (yes l) = rw (symbol-data (λ i. x i % 256) l, symbol-data x l)
      by (no n) = redundant-low x (omega arith) ∙ sym (byte_low (symbol k j x) (redundant-byte x (omega arith)))
