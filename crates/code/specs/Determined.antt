-- Document 01, "Field and code" and answer 12: what `invertible` and `recovered_table` of Decode.antt mean, apart from how they are computed, as
-- statements that proofs/Determined.antt proves. Assumes nothing.
use Rattle.std.specs.Prelude.{true, false, List, ◌≢◌, ◌≡◌, ℕ, ◌*◌, ◌≤◌, ◌<◌, length}
use Rattle.blocks.specs.Blocks.{block, Bytes}
use Rattle.code.specs.Code.{code_sizes, symbol, Codeword}
use Rattle.code.specs.Decode.{NodeSet, has, size, lowest, recovered_table, invertible}

-- p holds of 1 to k
abbrev pub OfEach : ℕ → (ℕ → Type 0) → Type 0
OfEach k p = (q : ℕ) → 1 ≤ q → q ≤ k → p q

-- s 1, .. s k are k different nodes of n
pub record Different (k n : ℕ) (s : ℕ → ℕ) : Type 0 where
  pub nodes : OfEach k (λ q. (1 ≤ s q) × (s q ≤ n))
  pub different : OfEach k (λ p. OfEach k (λ q. p ≢ q → s p ≢ s q))

-- x are data of which the nodes s 1, .. s k hold y
pub record Solves (k : ℕ) (s y x : ℕ → ℕ) : Type 0 where
  pub bytes : OfEach k (λ i. x i < 256)
  pub holds : OfEach k (λ q. symbol k (s q) x ≡ y q)

-- "the k chosen rows have an inverse": whatever bytes the nodes hold, some data have them
abbrev pub Invertible : ℕ → (ℕ → ℕ) → Type 0
Invertible k s = (y : ℕ → ℕ) → OfEach k (λ q. y q < 256) → (x : ℕ → ℕ) × Solves k s y x

-- `invertible` is the test of it
pub record Decides (k : ℕ) (s : ℕ → ℕ) : Type 0 where
  pub right : invertible k s ≡ true → Invertible k s
  pub wrong : invertible k s ≡ false → ¬ Invertible k s

abbrev pub InvertibleDecides : Type 0
InvertibleDecides = (k n b : ℕ) (s : ℕ → ℕ) → code_sizes k n b ≡ true → Different k n s → Decides k s

-- the set is of nodes 1 to n and has k or more: whose k lowest members determine a codeword
pub record Determines (k n : ℕ) (set : NodeSet) : Type 0 where
  pub enough : k ≤ size set
  pub nodes : (j : ℕ) → has set j ≡ true → j ≤ n

-- w is a codeword that has the blocks of t at the k lowest members of the set
pub record Agrees (k n b : ℕ) (set : NodeSet) (t w : List ℕ) : Type 0 where
  pub codeword : Codeword k n b w
  pub blocks : OfEach k (λ q. block b (lowest set q) w ≡ block b (lowest set q) t)

-- "the codeword decoded from the set": whatever bytes the k blocks are, those of a codeword or not, there is one, and no other
pub record TheCodeword (k n b : ℕ) (set : NodeSet) (t w : List ℕ) : Type 0 where
  pub agrees : Agrees k n b set t w
  pub only : (other : List ℕ) → Bytes other → Agrees k n b set t other → other ≡ w

abbrev pub RecoversTheCodeword : Type 0
RecoversTheCodeword =
    (k n b : ℕ) (set : NodeSet) (t : List ℕ) → code_sizes k n b ≡ true → Determines k n set → length t ≡ n * b → Bytes t
    → TheCodeword k n b set t (recovered_table k n b set t)
