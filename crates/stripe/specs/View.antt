-- How the records of the code are seen as those of the machine. Assumes nothing.
use Rattle.std.specs.Prelude.{List, [], ℕ, ◌≤◌, ◌<◌, get_or, None}
use Rattle.basics.specs.Lists.{list_of}
use Rattle.entries.specs.Entries.{entry_limit}
use Rattle.records.specs.declared.NodeRecord.{NodeRecord}
use Rattle.records.specs.declared.Opmode.TheVariants.{Norm}
use Rattle.records.specs.declared.Lmode.TheVariants.{Unl}
use Rattle.records.specs.Node.{Node}
use Rattle.records.specs.View.{node_of}
use Rattle.stripe.specs.declared.nodes.Nodes.{Nodes}

-- what stands past the last item of an array
abbrev pub blank_record : NodeRecord
blank_record =
    record {
      opmode = Norm;
      lmode = Unl;
      holder = None;
      epoch = record { 0 = 0 };
      rset = record { bits = 0 };
      entries = record { items = []; count = 0 };
    }

-- item i
abbrev pub record_at : Nodes → ℕ → NodeRecord
record_at x i = get_or x.items i blank_record

-- the n nodes of a stripe
abbrev pub nodes_of : ℕ → Nodes → List Node
nodes_of n x = list_of n (λ i. node_of (record_at x i))

-- the entries of the n records are within their arrays
pub record Counted (n : ℕ) (x : Nodes) : Type 0 where
  pub few : (i : ℕ) → i < n → (record_at x i).entries.count ≤ entry_limit
