-- The records of one stripe, taken out of their table. Assumes nothing.
use Rattle.std.specs.Prelude.{List, ◌≡◌, None, Option, Some, ℕ, ◌+◌, ◌-◌, ◌<◌, get_or, length, take}
use Rattle.parts.specs.Inside.{Range, part_in}
use Rattle.records.specs.declared.ClientRecord.{ClientRecord}
use Rattle.records.specs.declared.NodeRecord.{NodeRecord}
use Rattle.records.specs.Sizes.{client_limit, node_limit}
use Rattle.step.specs.declared.clients.Clients.{Clients}
use Rattle.step.specs.View.{blank_client}
use Rattle.stripe.specs.declared.nodes.Nodes.{Nodes}
use Rattle.stripe.specs.View.{blank_record}
use Rattle.tables.specs.declared.Volume.{Volume}
use Rattle.tables.specs.Parts.{part_of}
use Rattle.volumescript.specs.declared.reader.VolumeLine.{VolumeLine}
use Rattle.volumescript.specs.Looking.{clients_looked, nodes_looked}

-- those of the stripe's part, in order, as far as there is room for `limit`
abbrev pub Took : {T : Type 0} → List T → ℕ → ℕ → ℕ → List T → Type 0
Took table s each limit items =
    let part = part_in (part_of s each (length table)) table in
    take (length part) items ≡ take limit part

-- ---- by the line

abbrev pub range_of : Option ℕ → ℕ → ℕ → Range
range_of None each len = record { first = 0; end = 0 }
range_of (Some s) each len = part_of s each len

abbrev pub nodes_range : Volume → VolumeLine → ℕ → Range
nodes_range v line len = range_of (nodes_looked line) v.z.n len

abbrev pub clients_range : Volume → VolumeLine → ℕ → Range
clients_range v line len = range_of (clients_looked line) v.z.m len

-- those of the range, in order, from the first on
abbrev pub NodesTook : List NodeRecord → Volume → VolumeLine → Nodes → Type 0
NodesTook nodes v line r =
    let p = nodes_range v line (length nodes) in
    (j : ℕ) → j < p.end - p.first → j < node_limit → get_or r.items j blank_record ≡ get_or nodes (p.first + j) blank_record

abbrev pub ClientsTook : List ClientRecord → Volume → VolumeLine → Clients → Type 0
ClientsTook clients v line r =
    let p = clients_range v line (length clients) in
    (j : ℕ) → j < p.end - p.first → j < client_limit → get_or r.items j blank_client ≡ get_or clients (p.first + j) blank_client
