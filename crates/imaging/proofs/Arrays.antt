-- The records of a stripe by value, as the sections of its image. Assumes nothing.
--     arrays      the lengths of its two arrays.        nodes-put, clients-put      a section that was put
use mathlib.Core.List.{List}
use mathlib.Core.Path.{◌≡◌}
use Prim.Native.Nat.{ℕ, ◌≤◌}
use lib.ListN.{length, get_or, take}
use denote.Laws.{Is}
use denote.Struct.Declared.{row}
use mir.Val.{Val}
use Rattle.octets.specs.Octets.{joined, Put}
use Rattle.image.specs.Image.{clients_bytes, nodes_bytes}
use Rattle.image.specs.Records.{client_bytes, node_bytes}
use Rattle.records.specs.declared.ClientRecord.{ClientRecord}
use Rattle.records.specs.declared.NodeRecord.{NodeRecord}
use Rattle.records.specs.Client.{fresh_client}
use Rattle.records.specs.Node.{failed_node}
use Rattle.records.specs.View.{client_of, node_of}
use Rattle.step.specs.declared.clients.Clients.{Clients}
use Rattle.step.specs.declared.Stripe.{Stripe}
use Rattle.step.specs.contracts.Stripe.{the_type}
use Rattle.step.specs.View.{blank_client, clients_of}
use Rattle.step.proofs.Records.{eight}
use Rattle.stripe.specs.declared.nodes.Nodes.{Nodes}
use Rattle.stripe.specs.View.{blank_record, nodes_of}
use Rattle.stripe.proofs.NodeLists.{eighteen}
use Rattle.imaging.proofs.Items.{put-first}

pub arrays : (x : Stripe) (vs : List Val) → Is (row the_type) x vs → (length x.nodes.items ≡ 18) × (length x.clients.items ≡ 8)
arrays x vs g = (eighteen x.nodes _ g.1.1.0, eight x.clients _ g.1.1.1.0)

pub nodes-put : (n : ℕ) (x : Nodes) → n ≤ length x.items → {old new : List ℕ} {at : ℕ}
    → ((d : NodeRecord) → Put old at (joined (length (take n x.items)) (λ i. node_bytes (node_of (get_or (take n x.items) i d)))) new)
    → Put old at (nodes_bytes (nodes_of n x)) new
unfolding nodes_bytes
nodes-put n x h p = put-first node_of blank_record failed_node node_bytes n x.items h p

pub clients-put : (m : ℕ) (x : Clients) → m ≤ length x.items → {old new : List ℕ} {at : ℕ}
    → ((d : ClientRecord) → Put old at (joined (length (take m x.items)) (λ i. client_bytes (client_of (get_or (take m x.items) i d)))) new)
    → Put old at (clients_bytes (clients_of m x)) new
unfolding clients_bytes
clients-put m x h p = put-first client_of blank_client fresh_client client_bytes m x.items h p
