-- Refused by the volume's own tests, or the call on each stripe, or on its own.
use Rattle.std.proofs.Common.{sym, ap, ◌∙◌}
use Rattle.volumeshelf.proofs.Called.{each-said, one-said, refused-said}
use Rattle.volumeshelf.proofs.Tested.{passes}
use Rattle.volumeshelf.proofs.entry.call.Goals as goal

pub returns-in-Err : goal.returns-in-Err
returns-in-Err c =
    refused-said c.args.request c.args.value.now
    (record { nodes = c.args.nodes.now; clients = c.args.clients.now; blocks = c.args.blocks.now; spare = c.args.spare.now; differences = c.args.differences.now })
    c.in-Err.why (sym c.test-tested.ensures ∙ c.in-Err.is)

pub returns-then-is_of_each : goal.returns-then-is_of_each
returns-then-is_of_each c =
    each-said c.args.request c.args.value.now
    (record { nodes = c.args.nodes.now; clients = c.args.clients.now; blocks = c.args.blocks.now; spare = c.args.spare.now; differences = c.args.differences.now })
    (ap passes (sym c.test-tested.ensures ∙ c.in_default.is)) (sym c.if-is_of_each.ensures) c.on_each.result
    (record { nodes = c.on_each.new.nodes; clients = c.on_each.new.clients; blocks = c.on_each.new.blocks; spare = c.on_each.new.spare; differences = c.on_each.new.differences }) c.on_each.ensures

pub returns-else-is_of_each : goal.returns-else-is_of_each
returns-else-is_of_each c =
    one-said c.args.request c.args.value.now
    (record { nodes = c.args.nodes.now; clients = c.args.clients.now; blocks = c.args.blocks.now; spare = c.args.spare.now; differences = c.args.differences.now })
    (ap passes (sym c.test-tested.ensures ∙ c.in_default.is)) (sym c.if-is_of_each.ensures) c.on_stripe.result
    (record { nodes = c.on_stripe.new.nodes; clients = c.on_stripe.new.clients; blocks = c.on_stripe.new.blocks; spare = c.on_stripe.new.spare; differences = c.on_stripe.new.differences }) c.on_stripe.ensures
