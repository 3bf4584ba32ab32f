-- The node and the client taken out, the call made, and put back if it changed anything. Assumes nothing.
use mathlib.Core.Path.{sym, ap, ◌∙◌}
use Rattle.machine.specs.Stripe.{node_at, client_at}
use Rattle.basics.specs.Lists.{set_at}
use Rattle.records.proofs.Limits.{nodes-few}
use Rattle.limits.proofs.Limits.{clients-few}
use Rattle.records.specs.View.{node_of}
use Rattle.stripe.specs.Seen.{applied}
use Rattle.stripe.specs.View.{nodes_of}
use Rattle.step.specs.View.{clients_of, stripe_of}
use Rattle.step.specs.Steps.{Handed}
use Rattle.step.proofs.Playing.{steps-same, steps-put}
use Rattle.step.proofs.plays.play_step.Goals as goal
use Rattle.step.proofs.plays.play_step.Goals.{After-see-seen}

handed : (c : After-see-seen) →
    let a = c.args in
    Handed a.z a.call (stripe_of a.z a.stripe a.blocks.now a.spare.now a.differences.now) c.see-seen.result c.get-node.result
    c.get-client.result
handed c =
    let a = c.args in
    record {
      client_is = c.get-client.ensures ∙ ap (client_at (clients_of a.z.m a.stripe.clients)) c.caller.ensures;
      node_is = c.get-node.ensures ∙ ap (node_at (nodes_of a.z.n a.stripe.nodes)) c.target-j.ensures;
      seen_is = c.see-seen.ensures;
    }

pub get-client-requires : goal.get-client-requires
get-client-requires c = clients-few _ c.requires

pub get-node-requires : goal.get-node-requires
get-node-requires c = nodes-few _ c.requires

pub returns-then-is_unchanged : goal.returns-then-is_unchanged
returns-then-is_unchanged c = let a = c.args in
    let met = c.step-r.ensures (nodes_of a.z.n a.stripe.nodes) (clients_of a.z.m a.stripe.clients) (handed (goal.at.returns-then-is_unchanged c).After-see-seen) in
    steps-same a.z a.value.now a.stripe a.blocks.now a.spare.now a.differences.now c.step-r.result.answer _
    (sym c.is_unchanged.ensures ∙ c.if-is_unchanged.true) a.call met.said

pub put-requires : goal.put-requires
put-requires c = (nodes-few _ c.requires, clients-few _ c.requires)

pub returns : goal.returns
returns c = let a = c.args in
    let r = c.step-r.result in
    let met = c.step-r.ensures (nodes_of a.z.n a.stripe.nodes) (clients_of a.z.m a.stripe.clients) (handed (goal.at.returns c).After-see-seen) in
    let nodes = c.put.ensures.nodes ∙ ap (λ j. applied r.change (set_at (nodes_of a.z.n a.stripe.nodes) j (node_of r.node))) c.target-j.ensures in
    steps-put a.z a.value.now a.stripe a.blocks.now a.spare.now a.differences.now r.answer _
    (sym c.is_unchanged.ensures ∙ c.if-is_unchanged.false) c.put.result nodes c.put.ensures.clients a.call met.said
