-- A run of the code, record by record, at k=2, n=4, B=1, t_d=1, m=2: client 1 writes 01 into position 1, up to Done; client 2 rebuilds the stripe, up to
-- its last settle. Each record is one that the code has, in arrays of 16 entries and of 8 ids. Assumes nothing.
use Rattle.std.specs.Prelude.{Option, None, Some}
use mathlib.Core.List.{List, [], ◌∷◌, ◌++◌}
use Prim.Native.Nat.{ℕ, ◌-◌}
use lib.ListN.{length, replicate}
use Rattle.machine.specs.Examples.{sizes}
use Rattle.entries.specs.declared.WriteId.{WriteId}
use Rattle.entries.specs.declared.Entry.{Entry}
use Rattle.entries.specs.declared.Mark.TheVariants.{Recent}
use Rattle.entries.specs.declared.Few.{Few}
use Rattle.entries.specs.View.{blank_id, blank_entry}
use Rattle.records.specs.declared.Sizes.{Sizes}
use Rattle.records.specs.declared.Opmode.{Opmode}
use Rattle.records.specs.declared.Opmode.TheVariants.{Norm, Recons}
use Rattle.records.specs.declared.Lmode.{Lmode}
use Rattle.records.specs.declared.Lmode.TheVariants.{Unl, L1}
use Rattle.records.specs.declared.Phase.{Phase}
use Rattle.records.specs.declared.Phase.TheVariants.{NoRebuild, Locking, Picking, Writing, Settling, Unlocking}
use Rattle.records.specs.declared.NodeCall.TheVariants.{Add}
use Rattle.records.specs.declared.ClientCall.TheVariants.{Lock, Write, Settle}
use Rattle.records.specs.declared.NodeRecord.{NodeRecord}
use Rattle.records.specs.declared.Write as Hand
use Rattle.records.specs.declared.ClientRecord.{ClientRecord}
use Rattle.calls.specs.declared.Answer.{Answer}
use Rattle.calls.specs.declared.Answer.TheVariants.{Accepted, Added, Done, Rebuilt}
use Rattle.calls.specs.declared.StepCall.{StepCall}
use Rattle.calls.specs.declared.StepCall.TheVariants.{Swap, At, By}
use Rattle.runs.specs.Entered.{Tables}

abbrev pub z : Sizes
z = sizes 1

-- ---- records

abbrev node_with : Opmode → Lmode → Option ℕ → ℕ → ℕ → List Entry → NodeRecord
node_with opmode lmode holder epoch rset es =
    record {
      opmode = opmode;
      lmode = lmode;
      holder = holder;
      epoch = record { 0 = epoch };
      rset = record { bits = rset };
      entries = record { items = es ++ replicate (16 - length es) blank_entry; count = length es };
    }

abbrev ids_with : List WriteId → Few WriteId 8
ids_with ids = record { items = ids ++ replicate (8 - length ids) blank_id; count = length ids }

abbrev client_with : Option Hand.Write → Phase → List WriteId → ℕ → ClientRecord
client_with hand phase finished next =
    record { hand = hand; phase = phase; finished = ids_with finished; moved = ids_with []; round = 0; next = record { 0 = next } }

abbrev pub fresh_record : NodeRecord
fresh_record = node_with Norm Unl None 0 0 []

abbrev pub fresh_client_record : ClientRecord
fresh_client_record = client_with None NoRebuild [] 0

-- ---- the write

abbrev the_id : WriteId
the_id = record { client = 1; position = 1; number = record { 0 = 0 } }

abbrev listed : List Entry
listed = record { number = record { 0 = 0 }; client = 1; position = 1; mark = Recent; age = record { 0 = 0 } } ∷ []

-- with the write listed there
abbrev holds_write : NodeRecord
holds_write = node_with Norm Unl None 0 0 listed

-- client 1 with the write in hand, done at this set of nodes
abbrev in_hand : ℕ → ClientRecord
in_hand done = client_with (Some (record { id = the_id; previous = None; epoch = record { 0 = 0 }; done = record { bits = done } })) NoRebuild [] 1

-- ---- the rebuild

-- a node held by client 2: locked, written, settled
abbrev locked : List Entry → NodeRecord
locked es = node_with Norm L1 (Some 2) 0 0 es

abbrev written : List Entry → NodeRecord
written es = node_with Recons L1 (Some 2) 0 15 es

abbrev settled : NodeRecord
settled = node_with Norm L1 (Some 2) 1 0 []

-- ---- the tables

abbrev spare : List ℕ
spare = 170 ∷ 170 ∷ 170 ∷ 170 ∷ []

abbrev codeword : List ℕ
codeword = 1 ∷ 0 ∷ 142 ∷ 244 ∷ []

abbrev tables : List NodeRecord → List ClientRecord → List ℕ → List ℕ → List ℕ → Tables
tables nodes clients blocks spare differences = record { nodes = nodes; clients = clients; blocks = blocks; spare = spare; differences = differences }

abbrev pub at_first : Tables
at_first = tables (replicate 4 fresh_record) (replicate 2 fresh_client_record) (replicate 4 0) spare (85 ∷ 85 ∷ [])

-- during the rebuild: client 1 has finished its write
abbrev pub rebuilding : List NodeRecord → Phase → List ℕ → Tables
rebuilding nodes phase spare = tables nodes (client_with None NoRebuild (the_id ∷ []) 1 ∷ client_with None phase [] 0 ∷ []) codeword spare (1 ∷ 85 ∷ [])

-- ---- the calls, each with its answer and the tables as it left them

pub record Shot : Type 0 where
  pub call : StepCall
  pub value : List ℕ
  pub answer : Answer
  pub after : Tables

abbrev shot : StepCall → Answer → Tables → Shot
shot call answer after = record { call = call; value = []; answer = answer; after = after }

abbrev pub writing : List Shot
writing =
    record {
      call = Swap 1 1;
      value = 1 ∷ [];
      answer = Accepted;
      after = tables (holds_write ∷ fresh_record ∷ fresh_record ∷ fresh_record ∷ []) (in_hand 1 ∷ fresh_client_record ∷ []) (1 ∷ 0 ∷ 0 ∷ 0 ∷ []) spare
          (1 ∷ 85 ∷ []);
    }
    ∷ shot (At Add 1 3) Added
    (tables (holds_write ∷ fresh_record ∷ holds_write ∷ fresh_record ∷ []) (in_hand 5 ∷ fresh_client_record ∷ []) (1 ∷ 0 ∷ 142 ∷ 0 ∷ []) spare (1 ∷ 85 ∷ []))
    ∷ shot (At Add 1 4) Done (rebuilding (holds_write ∷ fresh_record ∷ holds_write ∷ holds_write ∷ []) NoRebuild spare)
    ∷ []

abbrev locked_by : Phase → List NodeRecord → Shot
locked_by phase nodes = shot (By Lock 2) Accepted (rebuilding nodes phase spare)

abbrev all_locked : List NodeRecord
all_locked = locked listed ∷ locked [] ∷ locked listed ∷ locked listed ∷ []

abbrev pub locking : List Shot
locking =
    locked_by (Locking 1 (record { bits = 0 })) (locked listed ∷ fresh_record ∷ holds_write ∷ holds_write ∷ [])
    ∷ locked_by (Locking 2 (record { bits = 0 })) (locked listed ∷ locked [] ∷ holds_write ∷ holds_write ∷ [])
    ∷ locked_by (Locking 3 (record { bits = 0 })) (locked listed ∷ locked [] ∷ locked listed ∷ holds_write ∷ [])
    ∷ locked_by (Picking 0) all_locked
    ∷ []

-- the set is all four nodes, E is 0
abbrev writing_at : ℕ → Phase
writing_at j = Writing j (record { bits = 15 }) (record { 0 = 0 })

abbrev pub after_pick : Tables
after_pick = rebuilding all_locked (writing_at 1) codeword

abbrev wrote : Phase → List NodeRecord → Shot
wrote phase nodes = shot (By Write 2) Accepted (rebuilding nodes phase codeword)

abbrev settling : Answer → Phase → List NodeRecord → Shot
settling answer phase nodes = shot (By Settle 2) answer (rebuilding nodes phase codeword)

abbrev settling_at : ℕ → Phase
settling_at j = Settling j (record { 0 = 0 })

abbrev pub finishing : List Shot
finishing =
    wrote (writing_at 2) (written listed ∷ locked [] ∷ locked listed ∷ locked listed ∷ [])
    ∷ wrote (writing_at 3) (written listed ∷ written [] ∷ locked listed ∷ locked listed ∷ [])
    ∷ wrote (writing_at 4) (written listed ∷ written [] ∷ written listed ∷ locked listed ∷ [])
    ∷ wrote (settling_at 1) (written listed ∷ written [] ∷ written listed ∷ written listed ∷ [])
    ∷ settling Accepted (settling_at 2) (settled ∷ written [] ∷ written listed ∷ written listed ∷ [])
    ∷ settling Accepted (settling_at 3) (settled ∷ settled ∷ written listed ∷ written listed ∷ [])
    ∷ settling Accepted (settling_at 4) (settled ∷ settled ∷ settled ∷ written listed ∷ [])
    ∷ settling Rebuilt (Unlocking 1) (settled ∷ settled ∷ settled ∷ settled ∷ [])
    ∷ []
