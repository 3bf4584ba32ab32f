-- What shelf's call says of the parts, said of the tables: a pick, or another call.
use Rattle.routing.specs.Walks.{pick_request_of, step_request_of}
use Rattle.shelf.specs.Shelf.{PicksOnly, StepsLent}
use Rattle.volumeshelf.proofs.OnParts.{on-parts}
use Rattle.volumeshelf.proofs.entry.on_stripe.Goals as goal

pub returns-in-Pick : goal.returns-in-Pick
returns-in-Pick c =
    rw c.in-Pick.is
    (on-parts PicksOnly (pick_request_of c.args.request _) c.args.request c.args.nodes.now c.args.clients.now c.args.blocks.now c.args.spare.now c.args.differences.now c.args.value.now
    c.pick-pick.result c.pick-pick.ensures c.pick.result c.pick.new.nodes c.pick.new.clients c.pick.new.blocks c.pick.new.spare
    c.pick.new.differences
    c.nodes_part-n.result.start c.nodes_part-n.result.end c.clients_part-c.result.start c.clients_part-c.result.end
    c.blocks_part-b.result.start c.blocks_part-b.result.end c.blocks_part-s.result.start c.blocks_part-s.result.end
    c.differences_part-d.result.start c.differences_part-d.result.end c.value_part-v.result.start c.value_part-v.result.end
    (record { first = c.nodes_part-n.ensures.start; end = c.nodes_part-n.ensures.end })
    (record { first = c.clients_part-c.ensures.start; end = c.clients_part-c.ensures.end })
    (record { first = c.blocks_part-b.ensures.start; end = c.blocks_part-b.ensures.end })
    (record { first = c.blocks_part-s.ensures.start; end = c.blocks_part-s.ensures.end })
    (record { first = c.differences_part-d.ensures.start; end = c.differences_part-d.ensures.end })
    (record { first = c.value_part-v.ensures.start; end = c.value_part-v.ensures.end })
    c.pick.auto.nodes c.pick.auto.clients c.pick.auto.blocks c.pick.auto.spare c.pick.auto.differences
    c.pick.ensures)

pub returns-in-Step : goal.returns-in-Step
returns-in-Step c =
    rw c.in-Step.is
    (on-parts StepsLent (step_request_of c.args.request _) c.args.request c.args.nodes.now c.args.clients.now c.args.blocks.now c.args.spare.now c.args.differences.now c.args.value.now
    c.step-step.result c.step-step.ensures c.step.result c.step.new.nodes c.step.new.clients c.step.new.blocks c.step.new.spare
    c.step.new.differences
    c.nodes_part-n.result.start c.nodes_part-n.result.end c.clients_part-c.result.start c.clients_part-c.result.end
    c.blocks_part-b.result.start c.blocks_part-b.result.end c.blocks_part-s.result.start c.blocks_part-s.result.end
    c.differences_part-d.result.start c.differences_part-d.result.end c.value_part-v.result.start c.value_part-v.result.end
    (record { first = c.nodes_part-n.ensures.start; end = c.nodes_part-n.ensures.end })
    (record { first = c.clients_part-c.ensures.start; end = c.clients_part-c.ensures.end })
    (record { first = c.blocks_part-b.ensures.start; end = c.blocks_part-b.ensures.end })
    (record { first = c.blocks_part-s.ensures.start; end = c.blocks_part-s.ensures.end })
    (record { first = c.differences_part-d.ensures.start; end = c.differences_part-d.ensures.end })
    (record { first = c.value_part-v.ensures.start; end = c.value_part-v.ensures.end })
    c.step.auto.nodes c.step.auto.clients c.step.auto.blocks c.step.auto.spare c.step.auto.differences
    c.step.ensures)
