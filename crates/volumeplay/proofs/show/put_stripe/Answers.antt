-- Sizes within the limits are no larger than the tables, and the part has the blocks of a stripe.
use Rattle.std.proofs.Common.{sym, ◌∙◌}
use Rattle.format.proofs.Tables.{within-tables}
use Rattle.tables.proofs.Within.{blocks-table}
use Rattle.volumeplay.proofs.show.put_stripe.Goals as goal

pub put_state-requires : goal.put_state-requires
put_state-requires g c =
    let z = c.args.volume.z in
    let few = within-tables z (sym c.within.ensures ∙ c.if-not-within.false) in
    record { within = few; table = c.if-blocks-table_blocks.false ∙ c.table_blocks-3.ensures ∙ blocks-table z few.nodes few.block }
