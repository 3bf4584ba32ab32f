-- Document 01, "Writing": the test of what an add is lent. Assumes nothing.
use Rattle.std.specs.Prelude.{Bool, ◌&&◌}
use Rattle.records.specs.declared.Sizes.{Sizes}
use Rattle.records.specs.Sizes.{sizes_within}
use Rattle.machine.specs.Stripe.{Local}
use Rattle.machine.specs.Writing.{records_fit, tables_fit}

-- "1: size, record or buffer length outside the limits"
abbrev pub add_within : Sizes → Local → Bool
add_within z l = sizes_within z && (records_fit z l && tables_fit z l)
