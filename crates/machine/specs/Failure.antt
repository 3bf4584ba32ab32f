-- Document 01, "Writing", its last two lines: a node fails, a client stops. Answer 1 is decided by the sizes and
--     fail    the lengths of the blocks and of the value, and not by the old record
--     stop    all n node records, the client's record
-- Assumes nothing.
use Rattle.std.specs.Prelude.{◌&&◌, not, List, map, ℕ, eqb, length}
use Rattle.blocks.specs.Blocks.{set_block}
use Rattle.records.specs.declared.Sizes.{Sizes}
use Rattle.records.specs.declared.Refusal.TheVariants.{OutOfLimits, OutOfRange}
use Rattle.records.specs.Sizes.{sizes_within, is_node, is_client}
use Rattle.records.specs.Node.{expired_for, failed_node}
use Rattle.records.specs.Client.{stopped, client_within}
use Rattle.machine.specs.Stripe.{Accepted, Outcome, answered, guard, Local, Whole, blocks_fit, nodes_fit}

-- "Node j fails: its block becomes the B bytes given; INIT, UNL, no holder, epoch 0, no entries, no rset."
unfoldable pub fail : Sizes → ℕ → List ℕ → Local → Outcome Local
fail z j value l =
    guard (not (sizes_within z && (blocks_fit z l.blocks && eqb (length value) z.b))) OutOfLimits l
    (guard (not (is_node z j)) OutOfRange l
    (answered Accepted
    (record { node = failed_node; client = l.client; blocks = set_block z.b j value l.blocks; differences = l.differences })))

-- "Client c stops: all that it held becomes EXP; hand, rebuild, lists and round are empty; its write number stays."
unfoldable pub stop : Sizes → ℕ → Whole → Outcome Whole
stop z c w =
    guard (not (sizes_within z && (nodes_fit z w.nodes && client_within z w.client))) OutOfLimits w
    (guard (not (is_client z c)) OutOfRange w
    (answered Accepted (record { nodes = map (expired_for c) w.nodes; client = stopped w.client; blocks = w.blocks; spare = w.spare })))
