-- The records of clients and of nodes in their arrays. Assumes nothing.
use mathlib.Core.Path.{◌≡◌, ap, ◌∙◌}
use mathlib.Core.List.{List}
use Prim.Native.Nat.{ℕ, ◌≤◌}
use lib.ListN.{length, replicate}
use denote.Laws.{Is}
use denote.Struct.Declared.{row}
use mir.Val.{Val}
use Rattle.records.specs.declared.ClientRecord.{ClientRecord}
use Rattle.records.specs.declared.NodeRecord.{NodeRecord}
use Rattle.records.specs.Client.{fresh_client}
use Rattle.records.specs.Node.{fresh_node}
use Rattle.records.specs.View.{client_of, node_of}
use Rattle.stripe.specs.View.{nodes_of, blank_record}
use Rattle.step.specs.declared.clients.Clients.{Clients}
use Rattle.step.specs.View.{blank_client, clients_of}
use Rattle.step.proofs.Items.{seen_same}
use Rattle.step.specs.contracts.clients.Clients.{the_type}

pub eight : (x : Clients) (vs : List Val) → Is (row the_type) x vs → length x.items ≡ 8
eight x vs g = g.1.1.0.1.0.1

pub clients-fresh : (x : ClientRecord) → client_of x ≡ fresh_client → (m : ℕ) → m ≤ 8 → clients_of m (record { items = replicate 8 x }) ≡ replicate m fresh_client
clients-fresh x e m h = seen_same client_of blank_client m 8 x h ∙ ap (replicate m) e

pub nodes-fresh : (x : NodeRecord) → node_of x ≡ fresh_node → (n : ℕ) → n ≤ 18 → nodes_of n (record { items = replicate 18 x }) ≡ replicate n fresh_node
nodes-fresh x e n h = seen_same node_of blank_record n 18 x h ∙ ap (replicate n) e
