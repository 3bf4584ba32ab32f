-- Sizes within the limits are no larger than the tables. Assumes nothing.
use mathlib.Core.Bool.{true}
use mathlib.Core.Path.{◌≡◌}
use Rattle.limits.proofs.Limits.{clients-few, code-sizes}
use Rattle.records.specs.declared.Sizes.{Sizes}
use Rattle.records.specs.Sizes.{sizes_within}
use Rattle.records.proofs.Limits.{nodes-few}
use Rattle.format.specs.Tables.{Within}

pub within-tables : (z : Sizes) → sizes_within z ≡ true → Within z
within-tables z e = record { nodes = nodes-few z e; clients = clients-few z e; block = (code-sizes z e).block_most }
