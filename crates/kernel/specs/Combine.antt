-- The kernel's contract: each block is a sum of blocks of a table, each times its weight. Assumes nothing.
use Rattle.std.specs.Prelude.{List, ◌≡◌, ℕ, ◌+◌, ◌-◌, ◌*◌, ◌≤◌, ◌<◌, length, get_or}
use Rattle.gf256.specs.Field.{product, sum}
use Rattle.blocks.specs.Blocks.{byte_at}

-- entry q of a list, q from 1
abbrev pub nth : List ℕ → ℕ → ℕ
nth xs q = get_or xs (q - 1) 0

-- byte p of the sum of the nodes' blocks of b bytes, each times its weight
abbrev pub mixed : ℕ → List ℕ → List ℕ → List ℕ → ℕ → ℕ
mixed b t nodes weights p = sum (length nodes) (λ q. product (nth weights q) (byte_at b t (nth nodes q) p))

-- ---- what a call is lent

-- a sum is of at most twelve blocks, three groups of four, which are of at most 4,096 bytes: document 01's limits of k and B
abbrev pub source_limit : ℕ
source_limit = 12

abbrev pub length_limit : ℕ
length_limit = 4096

-- no more nodes, numbered from 1
pub record Nodes (nodes : List ℕ) : Type 0 where
  pub few : length nodes ≤ source_limit
  pub from : (l : ℕ) → l < length nodes → 1 ≤ get_or nodes l 0

-- t has the nodes' blocks of b bytes
pub record HasBlocks (b : ℕ) (t nodes : List ℕ) : Type 0 where
  pub fits : (q : ℕ) → q < length nodes → get_or nodes q 0 * b ≤ length t

-- m rows of twelve weights, of which those past the first k are 0
pub record Rows (m k : ℕ) (rows : List ℕ) : Type 0 where
  pub zero : (j q : ℕ) → j < m → k ≤ q → q < source_limit → get_or rows (j * source_limit + q) 0 ≡ 0
