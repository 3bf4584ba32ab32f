-- The records of a table, as document 01 sees them. Assumes nothing.
use Rattle.std.specs.Prelude.{List, map}
use Rattle.records.specs.declared.ClientRecord.{ClientRecord}
use Rattle.records.specs.declared.NodeRecord.{NodeRecord}
use Rattle.records.specs.Client.{Client}
use Rattle.records.specs.Node.{Node}
use Rattle.records.specs.View.{client_of, node_of}

abbrev pub nodes_in : List NodeRecord → List Node
nodes_in nodes = map node_of nodes

abbrev pub clients_in : List ClientRecord → List Client
clients_in clients = map client_of clients
