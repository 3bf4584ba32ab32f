-- Document 01, "Field and code", as statements on the definitions of Code.antt, Decode.antt and Calls.antt: encoding makes a codeword, and
-- decoding gives back what was encoded, whichever k nodes are read. proofs/Demand2.antt proves them. Assumes nothing.
use Rattle.std.specs.Prelude.{Err, true, false, List, ◌++◌, ◌≢◌, ◌≡◌, ℕ, ◌-◌, ◌*◌, ◌≤◌, length}
use Rattle.blocks.specs.Blocks.{block, Bytes}
use Rattle.code.specs.Code.{code_sizes, codeword, redundant, Codeword}
use Rattle.code.specs.Calls.{accepted, encoding, decoding, is_in, some_outside, given_set}
use Rattle.code.specs.declared.CodeRefusal.TheVariants.{NoInverse}
use Rattle.code.specs.Decode.{NodeSet, has, size, lowest, recovered_table}

-- the data and then their redundant blocks are the codeword of the data, and a codeword
pub record Encoded (k n b : ℕ) (d : List ℕ) : Type 0 where
  pub whole : d ++ redundant k n b d ≡ codeword k n b d
  pub codeword : Codeword k n b (d ++ redundant k n b d)

abbrev pub EncodingMakesCodewords : Type 0
EncodingMakesCodewords = (k n b : ℕ) (d : List ℕ) → code_sizes k n b ≡ true → length d ≡ k * b → Encoded k n b d

-- the table t and a set of its nodes: the k lowest members hold the blocks of the codeword of d, and the others hold anything
pub record HoldsCodeword (k n b : ℕ) (set : NodeSet) (t d : List ℕ) : Type 0 where
  pub enough : k ≤ size set
  pub nodes : (j : ℕ) → has set j ≡ true → j ≤ n
  pub blocks : (q : ℕ) → 1 ≤ q → q ≤ k → block b (lowest set q) t ≡ block b (lowest set q) (codeword k n b d)

-- then decoding gives the data, and rebuilding all n blocks
pub record Decoded (k n b : ℕ) (set : NodeSet) (t d : List ℕ) : Type 0 where
  pub decodes : recovered_table k k b set t ≡ d
  pub rebuilds : recovered_table k n b set t ≡ codeword k n b d

abbrev pub DecodingGivesBack : Type 0
DecodingGivesBack =
    (k n b : ℕ) (set : NodeSet) (t d : List ℕ) → code_sizes k n b ≡ true → length d ≡ k * b → Bytes d → HoldsCodeword k n b set t d
    → Decoded k n b set t d

-- the two calls: data that were encoded, read at nodes of which k or more differ, are accepted and come back
abbrev pub CallsGiveBack : Type 0
CallsGiveBack =
    (k n b : ℕ) (d room t nodes out : List ℕ) → code_sizes k n b ≡ true → Bytes d
    → length d ≡ k * b → length room ≡ (n - k) * b → length t ≡ n * b → length out ≡ k * b
    → some_outside n nodes ≡ false → k ≤ size (given_set nodes)
    → ((j : ℕ) → is_in nodes j ≡ true → block b j t ≡ block b j (d ++ (encoding k n b d room).out))
    → decoding k n b nodes t out ≡ accepted d

-- answer 12 is never given: k distinct nodes always have an inverse
abbrev pub NeverNoInverse : Type 0
NeverNoInverse = (k n b : ℕ) (nodes t out : List ℕ) → (decoding k n b nodes t out).answer ≢ Err NoInverse
