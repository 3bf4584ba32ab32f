-- What a read is handed of a stripe. Assumes nothing.
use Rattle.std.specs.Prelude.{true, ◌≡◌, ℕ, length}
use Rattle.machine.specs.Stripe.{Stripe, node_at, client_at}
use Rattle.records.specs.declared.ClientRecord.{ClientRecord}
use Rattle.records.specs.declared.NodeRecord.{NodeRecord}
use Rattle.records.specs.declared.Sizes.{Sizes}
use Rattle.records.specs.Client.{has_picked}
use Rattle.records.specs.Node.{holder_of}
use Rattle.records.specs.Sizes.{sizes_within}
use Rattle.records.specs.View.{node_of, client_of}
use Rattle.stripe.specs.declared.seen.Seen.{Seen}
use Rattle.stripe.specs.Seen.{Sees}

-- the record of node i; that of the client that holds it; what is seen of all nodes for it, if its pick was accepted; the lengths of the two tables
pub record Handed (z : Sizes) (i : ℕ) (s : Stripe) (seen : Seen) (node : NodeRecord) (client : ClientRecord) (blocks spare : ℕ) : Type 0 where
  pub node_is : node_of node ≡ node_at s.nodes i
  pub client_is : client_of client ≡ client_at s.clients (holder_of (node_of node))
  pub seen_is : has_picked (client_of client).rebuild ≡ true → sizes_within z ≡ true → Sees z (holder_of (node_of node)) s.nodes seen
  pub blocks_are : blocks ≡ length s.blocks
  pub spare_is : spare ≡ length s.spare
