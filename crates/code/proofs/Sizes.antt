-- What `code_sizes` says of its numbers. Assumes nothing.
use mathlib.Core.Bool.{true}
use mathlib.Core.Path.{◌≡◌}
use Prim.Native.Nat.{ℕ, ◌-◌, ◌≤◌, ◌<◌}
use borrow.Author.Tests.{leb-true}
use Rattle.basics.proofs.Tests.{and_left, and_right}
use Rattle.code.specs.Code.{data_limit, redundant_limit, block_limit, code_sizes}

pub record Sizes (k n b : ℕ) : Type 0 where
  pub data_least : 2 ≤ k
  pub data_most : k ≤ data_limit
  pub redundant_least : k < n
  pub redundant_most : n - k ≤ redundant_limit
  pub redundant_few : n - k ≤ k
  pub block_least : 1 ≤ b
  pub block_most : b ≤ block_limit

pub sizes-of : (k n b : ℕ) → code_sizes k n b ≡ true → Sizes k n b
unfolding code_sizes
sizes-of k n b e = search (and_left, and_right, leb-true)
