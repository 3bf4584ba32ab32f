-- A stripe seen by columns: for each field of the records a function of the node's or the client's number. A column that a call leaves alone is the
-- same term after it, so what is known of it needs no proof again. Blocks are abstract here. Assumes nothing.
use Rattle.std.specs.Prelude.{Option}
use mathlib.Core.Bool.{Bool, true, false}
use mathlib.Core.List.{List}
use Prim.Native.Nat.{ℕ}
use lib.Dec.{eqb}
use Rattle.code.specs.Decode.{NodeSet}
use Rattle.entries.specs.declared.WriteId.{WriteId}
use Rattle.entries.specs.Entries.{Entry}
use Rattle.records.specs.declared.Opmode.{Opmode}
use Rattle.records.specs.Client.{Write, Rebuild}

-- an lmode with its holder: there is a holder at L0 and L1 alone
pub data Lock : Type 0 where
  Unl Exp : Lock
  L0 L1 : ℕ → Lock

-- the sizes, the blocks and the code, as operations
pub record Ops : Type 1 where
  pub B : Type 0
  pub k : ℕ
  pub n : ℕ
  pub zeroes : B
  -- value XOR old block
  pub diff : B → B → B
  -- block j with c(j,i) times the difference added
  pub mul_add : ℕ → ℕ → B → B → B
  -- redundant block j of data blocks
  pub parity : ℕ → (ℕ → B) → B
  -- block j of the codeword decoded from the members of a set
  pub decode : NodeSet → (ℕ → B) → ℕ → B

abbrev pub is_unl : Lock → Bool
is_unl Unl = true
is_unl Exp = false
is_unl (L0 c) = false
is_unl (L1 c) = false

abbrev pub is_exp : Lock → Bool
is_exp Unl = false
is_exp Exp = true
is_exp (L0 c) = false
is_exp (L1 c) = false

abbrev pub is_l0 : Lock → Bool
is_l0 Unl = false
is_l0 Exp = false
is_l0 (L0 c) = true
is_l0 (L1 c) = false

abbrev pub is_locked : Lock → Bool
is_locked Unl = false
is_locked Exp = false
is_locked (L0 c) = true
is_locked (L1 c) = true

abbrev pub held_by : ℕ → Lock → Bool
held_by c Unl = false
held_by c Exp = false
held_by c (L0 d) = eqb c d
held_by c (L1 d) = eqb c d

module _ (B : Type 0) where
  pub record Columns : Type 0 where
    pub block : ℕ → B
    pub op : ℕ → Opmode
    pub lock : ℕ → Lock
    pub epoch : ℕ → ℕ
    pub rset : ℕ → NodeSet
    pub entries : ℕ → List Entry
    pub hand : ℕ → Option Write
    pub phase : ℕ → Rebuild
    pub finished : ℕ → List WriteId
    pub next : ℕ → ℕ
    pub difference : ℕ → B
    pub spare : ℕ → B

module _ {B : Type 0} where
  abbrev pub set_blocks : (ℕ → B) → Columns B → Columns B
  set_blocks f s = record { block = f; op = s.op; lock = s.lock; epoch = s.epoch; rset = s.rset; entries = s.entries; hand = s.hand; phase = s.phase; finished = s.finished; next = s.next; difference = s.difference; spare = s.spare }

  abbrev pub set_ops : (ℕ → Opmode) → Columns B → Columns B
  set_ops f s = record { block = s.block; op = f; lock = s.lock; epoch = s.epoch; rset = s.rset; entries = s.entries; hand = s.hand; phase = s.phase; finished = s.finished; next = s.next; difference = s.difference; spare = s.spare }

  abbrev pub set_locks : (ℕ → Lock) → Columns B → Columns B
  set_locks f s = record { block = s.block; op = s.op; lock = f; epoch = s.epoch; rset = s.rset; entries = s.entries; hand = s.hand; phase = s.phase; finished = s.finished; next = s.next; difference = s.difference; spare = s.spare }

  abbrev pub set_epochs : (ℕ → ℕ) → Columns B → Columns B
  set_epochs f s = record { block = s.block; op = s.op; lock = s.lock; epoch = f; rset = s.rset; entries = s.entries; hand = s.hand; phase = s.phase; finished = s.finished; next = s.next; difference = s.difference; spare = s.spare }

  abbrev pub set_rsets : (ℕ → NodeSet) → Columns B → Columns B
  set_rsets f s = record { block = s.block; op = s.op; lock = s.lock; epoch = s.epoch; rset = f; entries = s.entries; hand = s.hand; phase = s.phase; finished = s.finished; next = s.next; difference = s.difference; spare = s.spare }

  abbrev pub set_entries : (ℕ → List Entry) → Columns B → Columns B
  set_entries f s = record { block = s.block; op = s.op; lock = s.lock; epoch = s.epoch; rset = s.rset; entries = f; hand = s.hand; phase = s.phase; finished = s.finished; next = s.next; difference = s.difference; spare = s.spare }

  abbrev pub set_hands : (ℕ → Option Write) → Columns B → Columns B
  set_hands f s = record { block = s.block; op = s.op; lock = s.lock; epoch = s.epoch; rset = s.rset; entries = s.entries; hand = f; phase = s.phase; finished = s.finished; next = s.next; difference = s.difference; spare = s.spare }

  abbrev pub set_phases : (ℕ → Rebuild) → Columns B → Columns B
  set_phases f s = record { block = s.block; op = s.op; lock = s.lock; epoch = s.epoch; rset = s.rset; entries = s.entries; hand = s.hand; phase = f; finished = s.finished; next = s.next; difference = s.difference; spare = s.spare }

  abbrev pub set_finished : (ℕ → List WriteId) → Columns B → Columns B
  set_finished f s = record { block = s.block; op = s.op; lock = s.lock; epoch = s.epoch; rset = s.rset; entries = s.entries; hand = s.hand; phase = s.phase; finished = f; next = s.next; difference = s.difference; spare = s.spare }

  abbrev pub set_nexts : (ℕ → ℕ) → Columns B → Columns B
  set_nexts f s = record { block = s.block; op = s.op; lock = s.lock; epoch = s.epoch; rset = s.rset; entries = s.entries; hand = s.hand; phase = s.phase; finished = s.finished; next = f; difference = s.difference; spare = s.spare }

  abbrev pub set_differences : (ℕ → B) → Columns B → Columns B
  set_differences f s = record { block = s.block; op = s.op; lock = s.lock; epoch = s.epoch; rset = s.rset; entries = s.entries; hand = s.hand; phase = s.phase; finished = s.finished; next = s.next; difference = f; spare = s.spare }

  abbrev pub set_spare : (ℕ → B) → Columns B → Columns B
  set_spare f s = record { block = s.block; op = s.op; lock = s.lock; epoch = s.epoch; rset = s.rset; entries = s.entries; hand = s.hand; phase = s.phase; finished = s.finished; next = s.next; difference = s.difference; spare = f }
