-- What a line is lent of the tables: the volume's records are the first of each, and the bytes are lent whole. Assumes nothing.
use Rattle.std.specs.Prelude.{List, ◌≡◌, ℕ, length, take, drop}
use Rattle.calls.specs.declared.Answer.{Answer}
use Rattle.records.specs.declared.ClientRecord.{ClientRecord}
use Rattle.records.specs.declared.NodeRecord.{NodeRecord}
use Rattle.routing.specs.declared.SizedRead.{SizedRead}
use Rattle.routing.specs.Walks.{sized_of}
use Rattle.tables.specs.declared.Volume.{Volume}
use Rattle.tables.specs.Parts.{lengths_of}
use Rattle.volumescript.specs.declared.reader.VolumeLine.{VolumeLine}
use Rattle.volumescript.specs.Asking.{call_in, count_in, read_in}
use Rattle.volumeshelf.specs.Volumes.{AnswersVolume, CallsVolume}

abbrev pub read_asked : Volume → VolumeLine → SizedRead
read_asked v line =
    let blocks = (lengths_of v).blocks in
    sized_of (read_in line v) blocks blocks

-- the part of each table: as many as the volume has, or all
abbrev pub nodes_part : Volume → List NodeRecord → List NodeRecord
nodes_part v nodes = take (lengths_of v).nodes nodes

abbrev pub clients_part : Volume → List ClientRecord → List ClientRecord
clients_part v clients = take (lengths_of v).clients clients

-- the call is volumeshelf's on these parts, the records after them are as they were, and each table has its length
pub record CallsPart (nodes : List NodeRecord) (clients : List ClientRecord) (blocks spare differences value : List ℕ) (v : Volume) (line : VolumeLine)
    (answer : Answer) (nodes' : List NodeRecord) (clients' : List ClientRecord) (blocks' spare' differences' : List ℕ) : Type 0 where
  pub called : CallsVolume (nodes_part v nodes) (clients_part v clients) blocks spare differences (take (count_in line) value) (call_in line v) answer
      (nodes_part v nodes') (clients_part v clients') blocks' spare' differences'
  pub nodes_after : drop (lengths_of v).nodes nodes' ≡ drop (lengths_of v).nodes nodes
  pub clients_after : drop (lengths_of v).clients clients' ≡ drop (lengths_of v).clients clients
  pub lengths : (length nodes' ≡ length nodes) × ((length clients' ≡ length clients) × ((length blocks' ≡ length blocks)
      × ((length spare' ≡ length spare) × (length differences' ≡ length differences))))

-- and so is what the read is answered
abbrev pub AnswersPart : List NodeRecord → List ClientRecord → Volume → VolumeLine → Answer → Type 0
AnswersPart nodes clients v line answer = AnswersVolume (nodes_part v nodes) (clients_part v clients) (read_asked v line) answer
