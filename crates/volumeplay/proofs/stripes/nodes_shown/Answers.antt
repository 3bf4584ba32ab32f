-- The records of the stripe that the line shows.
use Rattle.std.proofs.Common.{sym, ◌∙◌}
use Rattle.records.specs.Sizes.{node_limit}
use Rattle.stripe.specs.View.{blank_record}
use Rattle.volumescript.specs.Looking.{nodes_looked}
use Rattle.volumeplay.proofs.Taken.{taken}
use Rattle.volumeplay.proofs.stripes.nodes_shown.Goals as goal

pub returns-in-Some : goal.returns-in-Some
returns-in-Some c =
    taken c.args.nodes.now c.in-Some.s c.args.volume.z.n node_limit c.records_in.result c.records_in.ensures blank_record
    (nodes_looked c.args.line) (sym c.nodes_of.ensures ∙ c.in-Some.is)
