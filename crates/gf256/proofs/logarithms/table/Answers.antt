-- `gf256::logarithms::table` meets its contract: the table has the places of the powers. Assumes nothing.
use Rattle.gf256.specs.Field.{double}
use Rattle.gf256.proofs.Tables.{doublings, powers, places, logarithms, logarithms-are}
use Rattle.gf256.proofs.logarithms.table.Goals as goal

pub returns : goal.returns
unfolding logarithms places powers doublings double
returns c = logarithms-are
