-- What the calls on one stripe's parts say, and those on every stripe. Assumes nothing.
use Rattle.std.specs.Prelude.{List, ℕ, suc, length}
use Rattle.calls.specs.declared.Answer.{Answer}
use Rattle.calls.specs.declared.Answer.TheVariants.{Accepted}
use Rattle.calls.specs.declared.StepCall.{StepCall}
use Rattle.parts.specs.Inside.{Inside, Range}
use Rattle.records.specs.declared.ClientRecord.{ClientRecord}
use Rattle.records.specs.declared.NodeRecord.{NodeRecord}
use Rattle.shelf.specs.Shelf.{PicksOnly, StepsLent}
use Rattle.routing.specs.declared.Request.{Request}
use Rattle.routing.specs.declared.VolumeCall.{VolumeCall}
use Rattle.routing.specs.declared.VolumeCall.TheVariants.{Pick, Step}
use Rattle.routing.specs.Walks.{at_stripe, pick_request_of, step_request_of, value_from, value_to}
use Rattle.tables.specs.Parts.{part_of, table_blocks, table_differences}

-- the parts of the call's stripe: nodes, clients, a table of blocks, differences; and the bytes that are its own
abbrev pub nodes_part : Request → ℕ → Range
nodes_part q len = part_of q.stripe q.volume.z.n len

abbrev pub clients_part : Request → ℕ → Range
clients_part q len = part_of q.stripe q.volume.z.m len

abbrev pub blocks_part : Request → ℕ → Range
blocks_part q len = part_of q.stripe (table_blocks q.volume.z) len

abbrev pub differences_part : Request → ℕ → Range
differences_part q len = part_of q.stripe (table_differences q.volume.z) len

abbrev pub value_part : Request → ℕ → Range
value_part q len = record { first = value_from q len; end = value_to q len }

module _ {Q : Type 0}
    (R : List NodeRecord → List ClientRecord → List ℕ → List ℕ → List ℕ → List ℕ → Q → Answer
    → List NodeRecord → List ClientRecord → List ℕ → List ℕ → List ℕ → Type 0)
    (asked : Q) where
  abbrev pub OnParts : List NodeRecord → List ClientRecord → List ℕ → List ℕ → List ℕ → List ℕ → Request → Answer
      → List NodeRecord → List ClientRecord → List ℕ → List ℕ → List ℕ → Type 0
  OnParts nodes clients blocks spare differences value q answer nodes' clients' blocks' spare' differences' =
      Inside R (nodes_part q (length nodes)) (clients_part q (length clients)) (blocks_part q (length blocks)) (blocks_part q (length spare))
      (differences_part q (length differences)) (value_part q (length value))
      nodes clients blocks spare differences value asked answer nodes' clients' blocks' spare' differences'

-- a pick, or another call
module _ (nodes : List NodeRecord) (clients : List ClientRecord) (blocks spare differences value : List ℕ) (q : Request) (answer : Answer)
    (nodes' : List NodeRecord) (clients' : List ClientRecord) (blocks' spare' differences' : List ℕ) where
  abbrev pub PicksPart : ℕ → Type 0
  PicksPart c = OnParts PicksOnly (pick_request_of q c) nodes clients blocks spare differences value q answer nodes' clients' blocks' spare' differences'

  abbrev pub StepsPart : StepCall → Type 0
  StepsPart call = OnParts StepsLent (step_request_of q call) nodes clients blocks spare differences value q answer nodes' clients' blocks' spare' differences'

  abbrev pub MakesCall : VolumeCall → Type 0
  MakesCall (Pick c) = PicksPart c
  MakesCall (Step call) = StepsPart call

  abbrev pub MakesPart : Type 0
  MakesPart = MakesCall q.call

-- two tables of records, and three of bytes
pub record Tables : Type 0 where
  pub nodes : List NodeRecord
  pub clients : List ClientRecord
  pub blocks : List ℕ
  pub spare : List ℕ
  pub differences : List ℕ

-- the call on a stripe, of all tables
abbrev pub Makes : List ℕ → Tables → Request → Answer → Tables → Type 0
Makes value t q answer t' =
    MakesPart t.nodes t.clients t.blocks t.spare t.differences value q answer t'.nodes t'.clients t'.blocks t'.spare t'.differences

-- the calls on the stripes before s, one after the other, have led from t₀ to t; the answer is that of the last
module _ (q : Request) (value : List ℕ) (t₀ : Tables) where
  pub data Turns : ℕ → Tables → Answer → Type 0 where
    none : Turns 0 t₀ Accepted
    more : {s : ℕ} {t : Tables} {a a' : Answer} {t' : Tables} → Turns s t a → Makes value t (at_stripe q s) a' t' → Turns (suc s) t' a'

-- all of them
abbrev pub Goes : List NodeRecord → List ClientRecord → List ℕ → List ℕ → List ℕ → List ℕ → Request → Answer
    → List NodeRecord → List ClientRecord → List ℕ → List ℕ → List ℕ → Type 0
Goes nodes clients blocks spare differences value q answer nodes' clients' blocks' spare' differences' =
    Turns q value (record { nodes = nodes; clients = clients; blocks = blocks; spare = spare; differences = differences }) q.volume.stripes
    (record { nodes = nodes'; clients = clients'; blocks = blocks'; spare = spare'; differences = differences' }) answer
