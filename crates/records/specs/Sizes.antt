-- Document 01, "Field and code": the limits of the sizes, the ranges of numbers. Assumes nothing.
use Rattle.std.specs.Prelude.{Bool, ◌&&◌, ℕ, ◌-◌, leb, ltb}
use Rattle.code.specs.Code.{code_sizes}
pub use Rattle.code.specs.Code.{data_limit, node_limit, block_limit}
use Rattle.entries.specs.Entries.{is_up_to}
use Rattle.records.specs.declared.Sizes.{Sizes}

-- "clients m are 1 to 8"
abbrev pub client_limit : ℕ
client_limit = 8

-- "t_d, the node failures planned for, is 0 to n−k"; k, n and B as for the code
unfoldable pub sizes_within : Sizes → Bool
sizes_within z = code_sizes z.k z.n z.b && (leb z.failures (z.n - z.k) && (leb 1 z.m && leb z.m client_limit))

-- "Nodes are 1 to n; 1 to k hold data, k+1 to n are redundant"
abbrev pub is_node : Sizes → ℕ → Bool
is_node z j = is_up_to z.n j

abbrev pub is_position : Sizes → ℕ → Bool
is_position z i = is_up_to z.k i

abbrev pub is_redundant : Sizes → ℕ → Bool
is_redundant z j = ltb z.k j && leb j z.n

abbrev pub is_client : Sizes → ℕ → Bool
is_client z c = is_up_to z.m c
