-- Document 01, "Field and code": the coefficients, and what a node holds of one byte of each data block.
-- Nodes are 1 to n; 1 to k hold data, k + 1 to n are redundant. Assumes nothing.
use Rattle.std.specs.Prelude.{Bool, cond, ◌&&◌, List, ◌≡◌, ℕ, ◌+◌, ◌-◌, eqb, leb, ltb}
use Rattle.std.specs.Int.Bits.{bit_xor}
use Rattle.gf256.specs.Field.{product, inverse}
unfoldable pub use Rattle.gf256.specs.Field.{sum}
use Rattle.blocks.specs.Blocks.{byte_at, table}

-- "k is 2 to 12; n−k is 1 to 6 and at most k; block length B is 1 to 4,096"; so there are at most 18 nodes
abbrev pub data_limit : ℕ
data_limit = 12

abbrev pub redundant_limit : ℕ
redundant_limit = 6

abbrev pub node_limit : ℕ
node_limit = data_limit + redundant_limit

abbrev pub block_limit : ℕ
block_limit = 4096

unfoldable pub code_sizes : ℕ → ℕ → ℕ → Bool
code_sizes k n b = (leb 2 k && leb k data_limit) && ((ltb k n && (leb (n - k) redundant_limit && leb (n - k) k)) && (leb 1 b && leb b block_limit))

-- "The coefficient c(j,i) is the inverse of (j−1) XOR (i−1)"
unfoldable pub coefficient : ℕ → ℕ → ℕ
coefficient j i = inverse (bit_xor (j - 1) (i - 1))

-- the row of node j: a data node holds its own data, a redundant one the sum of c(j,i) times data i
unfoldable pub row : ℕ → ℕ → ℕ → ℕ
row k j i = cond (leb j k) (cond (eqb i j) 1 0) (coefficient j i)

-- "Redundant block j is the sum over i of c(j,i) times data block i": node j's byte, where x i is data node i's
unfoldable pub symbol : ℕ → ℕ → (ℕ → ℕ) → ℕ
symbol k j x = cond (leb j k) (x j) (sum k (λ i. product (coefficient j i) (x i)))

-- the codeword of the data, the first k blocks of t, and its redundant blocks alone
unfoldable pub codeword : ℕ → ℕ → ℕ → List ℕ → List ℕ
codeword k n b t = table n b (λ j p. symbol k j (λ i. byte_at b t i p))

unfoldable pub redundant : ℕ → ℕ → ℕ → List ℕ → List ℕ
redundant k n b t = table (n - k) b (λ j p. symbol k (k + j) (λ i. byte_at b t i p))

-- "A codeword is n blocks so related": the table is the codeword of its own first k blocks
abbrev pub Codeword : ℕ → ℕ → ℕ → List ℕ → Type 0
Codeword k n b t = t ≡ codeword k n b t
