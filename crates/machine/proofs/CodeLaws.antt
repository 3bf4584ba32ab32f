-- The laws that demand 3 asks of the code hold of blocks of bytes: they are the theorems on one byte of each block, at every place. Assumes nothing.
use mathlib.Core.Path.{◌≡◌, sym, ap, fun_ext, ◌∙◌}
use mathlib.Core.Bool.{true}
use mathlib.Core.List.{List}
use Prim.Native.Nat.{ℕ, ◌+◌, ◌-◌, ◌*◌, ◌≤◌, ◌<◌}
use native.Mathlib.Decide.{dec_le}
use native.Mathlib.Omega.{arith}
use lib.Bits.{bit_xor}
use lib.ListN.{length}
use borrow.Author.Tests.{le-leb}
use Rattle.gf256.specs.Field.{product}
use Rattle.basics.proofs.Tests.{and_left}
use Rattle.gf256.proofs.Xor.{xor-byte}
use Rattle.gf256.proofs.Laws.{product-byte, product-zero, byte_low}
use Rattle.blocks.specs.Blocks.{byte_at, Bytes}
use Rattle.blocks.proofs.Tables.{byte_at-table, length-table, table-ext}
use Rattle.code.specs.Code.{symbol, coefficient, codeword, Codeword}
use Rattle.code.specs.Decode.{NodeSet, has, size, lowest, recovered}
use Rattle.code.proofs.NodeSets.{lowest-has, lowest-chosen}
use Rattle.code.proofs.Recover.{recovered-byte, recover-symbol}
use Rattle.code.proofs.Sizes.{sizes-of}
use Rattle.code.proofs.Sizes as Code
use Rattle.gf256.proofs.Sum.{sum-ext, sum-zero}
use Rattle.code.proofs.Symbols.{symbol-data, symbol-redundant, symbol-ext, symbol-change, symbol-byte}
use Rattle.records.specs.declared.Sizes.{Sizes}
use Rattle.records.specs.Sizes.{sizes_within}
use Rattle.basics.proofs.Updates.{upd, upd_same, upd_other}
use Rattle.machine.proofs.Ledger.{IsPos, IsCodeword}
use Rattle.machine.proofs.Invariant.{Laws, code}
use Rattle.machine.proofs.Frame.{code-data, code-red}
use Rattle.machine.proofs.Bytes.{byte_of, Block, block-eq, block_of, ops}
use Rattle.machine.proofs.Tables.{val_of, val-byte, block-val}

-- the bytes at place p
abbrev at : ℕ → (ℕ → Block) → ℕ → ℕ
at p x i = (x i p).val

same_at : (p : ℕ) {x y : Block} → x ≡ y → (x p).val ≡ (y p).val
same_at p e = ap (λ (x : Block). (x p).val) e

module _ (z : Sizes) where
  open z use {k, n, b}
  open ops z use {diff, mul_add, parity, decode}

  -- k, n and b are sizes of the code
  pub sizes : sizes_within z ≡ true → Code.Sizes k n b
  unfolding sizes_within
  sizes w = sizes-of k n b (search and_left)

  ---- a redundant byte is the code's; so a table whose redundant blocks are the parity is a codeword

  parity-val : (j : ℕ) (x : ℕ → Block) (p : ℕ) → k < j → (parity j x p).val ≡ symbol k j (at p x)
  parity-val j x p kj =
      rw (← symbol-redundant k j (at p x) kj)
      (val-byte (symbol k j (at p x)) (symbol-byte k j (at p x) (omega arith) (λ i i1 ik. (x i p).small)))

  pub codeword-of : (t : List ℕ) → length t ≡ n * b → Bytes t → IsCodeword (ops z) (block_of b t) → Codeword k n b t
  unfolding codeword byte_at
  codeword-of t long bytes c =
      table-ext n b t (codeword k n b t) long (length-table n b (λ j p. symbol k j (held p)))
      (λ j p j1 jn lp. by j p j1 jn lp (dec_le j k) ∙ sym (byte_at-table n b (λ j p. symbol k j (held p)) j p j1 jn lp))
    where
      held : ℕ → ℕ → ℕ
      held p i = byte_at b t i p

      seen : (j p : ℕ) → 1 ≤ j → p < b → (block_of b t j p).val ≡ held p j
      seen j p j1 lp = block-val b t j p j1 lp ∙ byte_low (held p j) (bytes.small ((j - 1) * b + p))

      by : (j p : ℕ) → 1 ≤ j → j ≤ n → p < b → Dec (j ≤ k) → held p j ≡ symbol k j (held p)
      by j p j1 jn lp (yes jk) = sym (symbol-data k j (held p) jk)
      by j p j1 jn lp (no over) =
          sym (seen j p j1 lp) ∙ same_at p (c j (omega arith) jn) ∙ parity-val j (block_of b t) p (omega arith)
          ∙ symbol-ext k j (at p (block_of b t)) (held p) j1 (λ i i1 ik. seen i p i1 lp)

  ---- the laws, at one place

  -- what node j holds
  code-val : (j : ℕ) (x : ℕ → Block) (p : ℕ) → (code (ops z) j x p).val ≡ symbol k j (at p x)
  code-val j x p = by (dec_le j k)
    where
      by : Dec (j ≤ k) → (code (ops z) j x p).val ≡ symbol k j (at p x)
      by (yes jk) = same_at p (code-data (ops z) j x jk) ∙ sym (symbol-data k j (at p x) jk)
      by (no over) = same_at p (code-red (ops z) j x (omega arith)) ∙ parity-val j x p (omega arith)

  -- one data block changed
  changed-val : (x : ℕ → Block) (v : Block) (j i p : ℕ) → k < j → IsPos (ops z) i
      → (parity j (upd x i v) p).val ≡ (mul_add j i (parity j x) (diff v (x i)) p).val
  changed-val x v j i p kj pos =
      let old : ℕ = at p x i in
      let c : ℕ = coefficient j i in
      let d : ℕ = (diff v (x i) p).val in
      parity-val j (upd x i v) p kj
      ∙ symbol-change k j (at p x) (at p (upd x i v)) i kj pos.low pos.high (λ l l1 lk h. same_at p (upd_other x i v l (λ e. h (sym e))))
      ∙ (rw (same_at p (upd_same x i v), parity-val j x p kj, val-byte (bit_xor (v p).val old) (xor-byte (v p).val old (v p).small (x i p).small)))
      ∙ sym (val-byte (bit_xor (parity j x p).val (product c d)) (xor-byte (parity j x p).val (product c d) (parity j x p).small (product-byte c d)))

  -- the members of the set hold what they have of the data x
  module _ (s : Code.Sizes k n b) (set : NodeSet) (y x : ℕ → Block) (enough : k ≤ size set)
      (agree : (j : ℕ) → has set j ≡ true → (1 ≤ j) × (j ≤ n) × (y j ≡ code (ops z) j x)) where
    -- byte p of the qth lowest member
    abbrev read : ℕ → ℕ → ℕ
    read p q = (y (lowest set q) p).val

    decoded-val : (j p : ℕ) → 1 ≤ j → j ≤ n → recovered k (lowest set) (read p) j ≡ (code (ops z) j x p).val
    decoded-val j p j1 jn =
        recover-symbol k (lowest set) (omega arith) (lowest-chosen k set (λ j there. omega (arith, (agree j there).1)) enough)
        (read p) (at p x) (λ i i1 ik. (x i p).small)
        (λ q q1 qk. sym (same_at p (agree (lowest set q) (lowest-has set q q1 (omega arith))).2 ∙ code-val (lowest set q) x p)) j j1 (omega arith)
        ∙ sym (code-val j x p)

    decoded : (j : ℕ) → 1 ≤ j → j ≤ n → decode set y j ≡ code (ops z) j x
    decoded j j1 jn =
        rw (le-leb 1 j j1, le-leb j n jn)
        (block-eq (λ p. byte_of (recovered k (lowest set) (read p) j)) (code (ops z) j x)
        (λ p. val-byte (recovered k (lowest set) (read p) j) (recovered-byte k (lowest set) (read p) j) ∙ decoded-val j p j1 jn))

  ---- the laws

  -- c(j,i) times data byte i
  abbrev term : ℕ → (ℕ → ℕ) → ℕ → ℕ
  term j x i = product (coefficient j i) (x i)

  pub code_laws : sizes_within z ≡ true → Laws (ops z)
  code_laws within =
      let s = sizes within in
      record {
        k_two = s.data_least;
        k_n = s.redundant_least;
        n_18 = omega arith;
        parity_zero = λ j.
            fun_ext (λ p. ap byte_of (sum-zero k (term j (λ i. (byte_of 0).val)) (λ i i1 ik. rw (val_of 0) (product-zero (coefficient j i)))));
        parity_ext = λ j x y same.
            fun_ext (λ p. ap byte_of (sum-ext k (term j (at p x)) (term j (at p y)) (λ i i1 ik. rw (same_at p (same i (record { low = i1; high = ik }))))));
        parity_upd = λ j i x v kj jn pos. block-eq (parity j (upd x i v)) (mul_add j i (parity j x) (diff v (x i))) (λ p. changed-val x v j i p kj pos);
        decodes = decoded s;
      }
