-- `gf256::powers::table` meets its contract: the table is the one that doubling makes. Assumes nothing.
use Rattle.gf256.specs.Field.{double}
use Rattle.gf256.proofs.Tables.{doublings, powers, powers-are}
use Rattle.gf256.proofs.powers.table.Goals as goal

pub returns : goal.returns
unfolding powers doublings double
returns c = powers-are
