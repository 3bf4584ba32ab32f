-- The node, what becomes of the others, and the client.  Assumes nothing.
use mathlib.Core.Path.{ap, ◌∙◌}
use Rattle.basics.specs.Lists.{set_at}
use Rattle.records.specs.View.{client_of}
use Rattle.stripe.specs.Seen.{applied}
use Rattle.step.specs.View.{clients_of}
use Rattle.step.proofs.plays.put.Goals as goal

pub returns : goal.returns
returns c = let args = c.args in record { nodes = c.change.ensures ∙ ap (applied args.r.change) c.set.ensures; clients = c.set-2.ensures ∙ ap (λ j. set_at (clients_of args.z.m args.stripe.clients) j (client_of args.r.client)) c.caller.ensures }
