-- Document 01, "Due test and runner": whether a node is due by the ages of its entries. Change request C-12: the tick. Answer 1 is decided by the sizes
-- and
--     due     the node's record
--     tick    all n node records
-- Assumes nothing.
use Rattle.std.specs.Prelude.{◌&&◌, not, map, ℕ}
use Rattle.records.specs.declared.Sizes.{Sizes}
use Rattle.records.specs.declared.Finding.TheVariants.{Due}
use Rattle.records.specs.declared.Refusal.TheVariants.{OutOfLimits, OutOfRange}
use Rattle.records.specs.Sizes.{sizes_within, is_node}
use Rattle.records.specs.Node.{ticked, is_due, node_within}
use Rattle.machine.specs.Stripe.{Accepted, Told, Outcome, answered, guard, Local, Whole, nodes_fit}

-- "A node is due if INIT or if a recent entry has age 64 or more (63 isn't)." It is asked of any node, and nothing changes
unfoldable pub due : Sizes → ℕ → Local → Outcome Local
due z j l =
    guard (not (sizes_within z && node_within z l.node)) OutOfLimits l
    (guard (not (is_node z j)) OutOfRange l
    (answered (Told (Due (is_due l.node))) l))

-- C-12: "A tick call adds 1 to the age of each recent entry on every node", whatever its modes. It is a call of no client
unfoldable pub tick : Sizes → Whole → Outcome Whole
tick z w =
    guard (not (sizes_within z && nodes_fit z w.nodes)) OutOfLimits w
    (answered Accepted (record { nodes = map ticked w.nodes; client = w.client; blocks = w.blocks; spare = w.spare }))
