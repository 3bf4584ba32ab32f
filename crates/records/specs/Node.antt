-- Document 01, "Records": a node's record, and what the calls do to one record. Assumes nothing.
use Rattle.std.specs.Prelude.{Bool, true, false, cond, ◌&&◌, ◌||◌, List, [], ℕ, ◌+◌, eqb, leb, length, Option, None, Some, unwrap_or}
use Rattle.code.specs.Decode.{NodeSet, no_nodes}
unfoldable pub use Rattle.code.specs.Decode.{set_within}
use Rattle.entries.specs.declared.WriteId.{WriteId}
use Rattle.entries.specs.declared.Epoch.{Epoch}
use Rattle.entries.specs.Entries.{Entry, entry_limit, enter, aged, some_due, entries_within}
use Rattle.records.specs.declared.Sizes.{Sizes}
use Rattle.records.specs.declared.Opmode.{Opmode}
use Rattle.records.specs.declared.Opmode.TheVariants.{Norm, Recons, Init}
use Rattle.records.specs.declared.Lmode.{Lmode}
use Rattle.records.specs.declared.Lmode.TheVariants.{Unl, L0, L1, Exp}
use Rattle.records.specs.Sizes.{is_client}

-- "A node has: block; opmode ..; lmode ..; holder ..; epoch; a set of nodes rset; and up to 16 entries". The block is in the block table
pub record Node : Type 0 where
  pub opmode : Opmode
  pub lmode : Lmode
  pub holder : Option ℕ
  pub epoch : Epoch
  pub rset : NodeSet
  pub entries : List Entry

abbrev pub epoch_limit : ℕ
epoch_limit = 1000000

-- "Fresh: zero blocks and counts, NORM, UNL, empty lists"
abbrev pub fresh_node : Node
fresh_node = record { opmode = Norm; lmode = Unl; holder = None; epoch = record { 0 = 0 }; rset = no_nodes; entries = [] }

-- "Node j fails: .. INIT, UNL, no holder, epoch 0, no entries, no rset"
abbrev pub failed_node : Node
failed_node = record { opmode = Init; lmode = Unl; holder = None; epoch = record { 0 = 0 }; rset = no_nodes; entries = [] }

abbrev pub is_norm : Opmode → Bool
is_norm Norm = true
is_norm Recons = false
is_norm Init = false

abbrev pub is_recons : Opmode → Bool
is_recons Norm = false
is_recons Recons = true
is_recons Init = false

abbrev pub is_init : Opmode → Bool
is_init Norm = false
is_init Recons = false
is_init Init = true

abbrev pub is_unl : Lmode → Bool
is_unl Unl = true
is_unl L0 = false
is_unl L1 = false
is_unl Exp = false

abbrev pub is_exp : Lmode → Bool
is_exp Unl = false
is_exp L0 = false
is_exp L1 = false
is_exp Exp = true

abbrev pub is_l0 : Lmode → Bool
is_l0 Unl = false
is_l0 L0 = true
is_l0 L1 = false
is_l0 Exp = false

abbrev pub is_l1 : Lmode → Bool
is_l1 Unl = false
is_l1 L0 = false
is_l1 L1 = true
is_l1 Exp = false

abbrev pub is_holder : ℕ → Option ℕ → Bool
is_holder c None = false
is_holder c (Some d) = eqb c d

-- the client that holds a node, 0 if none does
abbrev pub holder_of : Node → ℕ
holder_of x = unwrap_or x.holder 0

-- "needs node i NORM and UNL"
abbrev pub is_free : Node → Bool
is_free x = is_norm x.opmode && is_unl x.lmode

-- "needs NORM, lmode UNL or L0"
abbrev pub takes_add : Node → Bool
takes_add x = is_norm x.opmode && (is_unl x.lmode || is_l0 x.lmode)

-- "'Held by c' means lmode L0 or L1 with holder c"
abbrev pub held_by : ℕ → Node → Bool
held_by c x = (is_l0 x.lmode || is_l1 x.lmode) && is_holder c x.holder

abbrev pub held_at_l1 : ℕ → Node → Bool
held_at_l1 c x = is_l1 x.lmode && is_holder c x.holder

-- the node with other entries, with another lmode and holder
abbrev pub with_entries : Node → List Entry → Node
with_entries x es = record { opmode = x.opmode; lmode = x.lmode; holder = x.holder; epoch = x.epoch; rset = x.rset; entries = es }

abbrev pub with_lmode : Node → Lmode → Option ℕ → Node
with_lmode x l h = record { opmode = x.opmode; lmode = l; holder = h; epoch = x.epoch; rset = x.rset; entries = x.entries }

-- "the id entered as recent"
abbrev pub entered : WriteId → Node → Node
entered id x = with_entries x (enter id x.entries)

-- "goes from UNL or EXP to L1, held by c"; "redundant nodes go to L0"; "UNL"; "all that it held becomes EXP"
abbrev pub locked_by : ℕ → Node → Node
locked_by c x = with_lmode x L1 (Some c)

abbrev pub weakened_by : ℕ → Node → Node
weakened_by c x = with_lmode x L0 (Some c)

abbrev pub unlocked : Node → Node
unlocked x = with_lmode x Unl None

abbrev pub expired_for : ℕ → Node → Node
expired_for c x = cond (held_by c x) (with_lmode x Exp None) x

-- "nodes still held by c get their old lmode", which was UNL or EXP
abbrev pub given_back : ℕ → Lmode → Node → Node
given_back c old x = cond (held_by c x) (with_lmode x old None) x

-- "Write c: .. RECONS, epoch E, rset = the set"
abbrev pub written : Epoch → NodeSet → Node → Node
written e set x = record { opmode = Recons; lmode = x.lmode; holder = x.holder; epoch = e; rset = set; entries = x.entries }

-- "Settle c: .. epoch E+1, entries cleared, rset cleared, NORM, still held"
abbrev pub settled : Epoch → Node → Node
settled e x = record { opmode = Norm; lmode = x.lmode; holder = x.holder; epoch = record { 0 = e.0 + 1 }; rset = no_nodes; entries = [] }

-- C-12: "A tick call adds 1 to the age of each recent entry on every node"
abbrev pub ticked : Node → Node
ticked x = with_entries x (aged x.entries)

-- "A node is due if INIT or if a recent entry has age 64 or more"
abbrev pub is_due : Node → Bool
is_due x = is_init x.opmode || some_due x.entries

-- "record .. outside the limits" (docs/DECISIONS.md): a holder at L0 and L1 alone, and every number in its range
abbrev pub holder_within : Sizes → Lmode → Option ℕ → Bool
holder_within z Unl None = true
holder_within z Unl (Some c) = false
holder_within z L0 None = false
holder_within z L0 (Some c) = is_client z c
holder_within z L1 None = false
holder_within z L1 (Some c) = is_client z c
holder_within z Exp None = true
holder_within z Exp (Some c) = false

unfoldable pub node_within : Sizes → Node → Bool
node_within z x =
    holder_within z x.lmode x.holder &&
    (leb x.epoch.0 epoch_limit && (set_within z.n x.rset && (leb (length x.entries) entry_limit && entries_within z.k z.m x.entries)))
