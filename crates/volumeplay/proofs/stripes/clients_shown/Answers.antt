-- The records of the stripe that the line shows, or where it picks.
use Rattle.std.proofs.Common.{sym, ◌∙◌}
use Rattle.records.specs.Sizes.{client_limit}
use Rattle.step.specs.View.{blank_client}
use Rattle.volumescript.specs.Looking.{clients_looked}
use Rattle.volumeplay.proofs.Taken.{taken}
use Rattle.volumeplay.proofs.stripes.clients_shown.Goals as goal

pub returns-in-Some : goal.returns-in-Some
returns-in-Some c =
    taken c.args.clients.now c.in-Some.s c.args.volume.z.m client_limit c.records_in.result c.records_in.ensures blank_client
    (clients_looked c.args.line) (sym c.clients_of.ensures ∙ c.in-Some.is)
