-- What the functions on a case ask of its sizes and of its buffers. Assumes nothing.
use Rattle.std.specs.Prelude.{List, ◌≡◌, ℕ, ◌+◌, ◌-◌, ◌*◌, ◌≤◌, length}
use Rattle.code.specs.Code.{data_limit, redundant_limit, node_limit, block_limit}
use Rattle.codecheck.specs.declared.Sizes.{Sizes}
use Rattle.codecheck.specs.declared.cases.Lengths.{Lengths}

-- no larger than the largest case, 12 of 18 nodes at 4,096 bytes
pub record Within (s : Sizes) : Type 0 where
  pub data-nodes : s.k ≤ data_limit
  pub nodes : s.k ≤ s.n
  pub redundant_nodes : s.n - s.k ≤ redundant_limit
  pub block : s.b ≤ block_limit

-- buffers of these lengths hold n blocks, in the parts data and redundant, and are no longer than those of the largest case
pub record Room (s : Sizes) (r : Lengths) : Type 0 where
  pub nodes : r.table ≡ s.n * s.b
  pub parts : r.table ≡ r.«data» + r.redundant
  pub table_most : r.table ≤ node_limit * block_limit
  pub data_most : r.«data» ≤ data_limit * block_limit
  pub redundant_most : r.redundant ≤ redundant_limit * block_limit

-- a codeword, and a table of its length
pub record Tables (s : Sizes) (word table : List ℕ) : Type 0 where
  pub within : Within s
  pub blocks : length table ≡ s.n * s.b
  pub same : length table ≡ length word
