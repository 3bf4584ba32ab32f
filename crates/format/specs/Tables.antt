-- What the functions over a stripe's tables ask of them. Assumes nothing.
use Rattle.std.specs.Prelude.{List, ◌≡◌, ℕ, ◌*◌, ◌≤◌, length}
use Rattle.records.specs.declared.Sizes.{Sizes}
use Rattle.records.specs.Sizes.{client_limit, node_limit, block_limit}

-- no larger than the largest stripe
pub record Within (z : Sizes) : Type 0 where
  pub nodes : z.n ≤ node_limit
  pub clients : z.m ≤ client_limit
  pub block : z.b ≤ block_limit

-- a table of n blocks
pub record Tables (z : Sizes) (blocks : List ℕ) : Type 0 where
  pub within : Within z
  pub table : length blocks ≡ z.n * z.b
