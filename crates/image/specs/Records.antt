-- Change request C-13, docs/IMAGE.md: the bytes of a node record and of a client record. They are defined on what a record stands for (Node, Client), so
-- that a slot without a meaning has no other content than the one here. Assumes nothing.
use Rattle.std.specs.Prelude.{List, [], ◌∷◌, ◌++◌, map, ℕ, length, get_or, replicate, Option, None, Some}
use Rattle.octets.specs.Octets.{word_bytes, joined}
use Rattle.code.specs.Bits.{bits_of}
use Rattle.entries.specs.declared.WriteId.{WriteId}
use Rattle.entries.specs.declared.Mark.{Mark}
use Rattle.entries.specs.declared.Mark.TheVariants.{Recent, Old}
use Rattle.entries.specs.Entries.{Entry, entry_limit, finished_limit, new_entry}
use Rattle.entries.specs.View.{blank_id}
use Rattle.records.specs.declared.Opmode.{Opmode}
use Rattle.records.specs.declared.Opmode.TheVariants.{Norm, Recons, Init}
use Rattle.records.specs.declared.Lmode.{Lmode}
use Rattle.records.specs.declared.Lmode.TheVariants.{Unl, L0, L1, Exp}
use Rattle.records.specs.Node.{Node, is_exp}
use Rattle.records.specs.Client.{Client, Write, Rebuild, NoRebuild, Locking, Picking, Writing, Settling, Unlocking}

-- "A write id, 6 bytes"
abbrev pub id_bytes : WriteId → List ℕ
id_bytes x = x.client ∷ x.position ∷ word_bytes x.number.0

-- "0 recent, 1 old"
abbrev pub mark_byte : Mark → ℕ
mark_byte Recent = 0
mark_byte Old = 1

-- "An entry, 8 bytes, is a write id (6 bytes), then its mark, then its age"
abbrev pub entry_bytes : Entry → List ℕ
entry_bytes e = id_bytes e.id ++ mark_byte e.mark ∷ e.age.0 ∷ []

-- "0 NORM, 1 RECONS, 2 INIT"
abbrev pub opmode_byte : Opmode → ℕ
opmode_byte Norm = 0
opmode_byte Recons = 1
opmode_byte Init = 2

-- "0 UNL, 1 L0, 2 L1, 3 EXP"
abbrev pub lmode_byte : Lmode → ℕ
lmode_byte Unl = 0
lmode_byte L0 = 1
lmode_byte L1 = 2
lmode_byte Exp = 3

-- "1 to m at L0 and L1; 0 at UNL and EXP"
abbrev pub holder_byte : Option ℕ → ℕ
holder_byte None = 0
holder_byte (Some c) = c

-- "count of entries" and 16 slots, "0 from the count on": a blank entry is 0 in every byte
unfoldable pub entries_bytes : List Entry → List ℕ
entries_bytes es = length es ∷ joined entry_limit (λ i. entry_bytes (get_or es i (new_entry blank_id)))

-- "A node record, 140 bytes"
abbrev pub node_width : ℕ
node_width = 140

unfoldable pub node_bytes : Node → List ℕ
node_bytes x =
    opmode_byte x.opmode ∷ lmode_byte x.lmode ∷ holder_byte x.holder ∷ word_bytes x.epoch.0 ++ word_bytes (bits_of x.rset) ++
    entries_bytes x.entries

-- "0 none, 1 there is one"; "0 if there is none"
abbrev pub previous_tag : Option WriteId → ℕ
previous_tag None = 0
previous_tag (Some x) = 1

abbrev pub previous_id : Option WriteId → WriteId
previous_id None = blank_id
previous_id (Some x) = x

-- "0 empty, 1 a write in hand"; "0 with an empty hand"
abbrev pub write_bytes : Write → List ℕ
write_bytes w =
    id_bytes w.id ++ previous_tag w.previous ∷ id_bytes (previous_id w.previous) ++ word_bytes w.epoch.0 ++ word_bytes (bits_of w.done)

abbrev pub hand_bytes : Option Write → List ℕ
hand_bytes None = replicate 22 0
hand_bytes (Some w) = 1 ∷ write_bytes w

-- a phase, its node, its set and its epoch, 10 bytes
abbrev pub phase_bytes : ℕ → ℕ → ℕ → ℕ → List ℕ
phase_bytes phase node set epoch = phase ∷ node ∷ word_bytes set ++ word_bytes epoch

-- locking: "how many nodes are locked", "of these, the nodes that were EXP"
abbrev pub rebuild_bytes : Rebuild → List ℕ
rebuild_bytes NoRebuild = phase_bytes 0 0 0 0
rebuild_bytes (Locking old) = phase_bytes 1 (length old) (bits_of (map is_exp old)) 0
rebuild_bytes (Picking t) = phase_bytes 2 t 0 0
rebuild_bytes (Writing x set e) = phase_bytes 3 x (bits_of set) e.0
rebuild_bytes (Settling x e) = phase_bytes 4 x 0 e.0
rebuild_bytes (Unlocking x) = phase_bytes 5 x 0 0

-- "count of finished ids", "count of moved ids", each with 8 slots, "0 from the count on"
unfoldable pub ids_bytes : List WriteId → List ℕ
ids_bytes ids = length ids ∷ joined finished_limit (λ i. id_bytes (get_or ids i blank_id))

-- "A client record, 135 bytes"
abbrev pub client_width : ℕ
client_width = 135

unfoldable pub client_bytes : Client → List ℕ
client_bytes x =
    hand_bytes x.hand ++ rebuild_bytes x.rebuild ++ (x.round ∷ word_bytes x.next.0) ++ ids_bytes x.finished ++ ids_bytes x.moved
