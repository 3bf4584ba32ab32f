-- The head, then the entries. Assumes nothing.
use mathlib.Core.Path.{refl, ap, ◌∙◌}
use mathlib.Core.List.{List, ◌∷◌, ◌++◌}
use Prim.Native.Nat.{ℕ}
use native.Mathlib.Omega.{arith}
use Rattle.octets.specs.Octets.{word_bytes}
use Rattle.octets.proofs.Filling.{full}
use Rattle.code.specs.Bits.{bits_of}
use Rattle.code.proofs.SetBits.{bits-whole}
use Rattle.image.specs.Records.{opmode_byte, lmode_byte, holder_byte, entries_bytes, node_bytes}
use Rattle.records.specs.View.{node_of}
use Rattle.serial.proofs.Rows.{four, fill-array}
use Rattle.serial.proofs.nodes.node_bytes.Goals as goal

-- the head, by the bytes of its parts
abbrev row : ℕ → ℕ → ℕ → List ℕ → List ℕ → List ℕ
row opmode lmode holder epoch rset = opmode ∷ lmode ∷ holder ∷ four epoch ++ four rset

pub returns : goal.returns
unfolding node_bytes
returns c = let node = c.args.x in
    let x = node_of node in
    let rset = c.word_bytes-s.ensures ∙ ap word_bytes (c.first_bits.ensures ∙ bits-whole node.rset) in
    full
    (fill-array 129 140 (entries_bytes x.entries)
    (fill-array 11 11 (row (opmode_byte x.opmode) (lmode_byte x.lmode) (holder_byte x.holder) (word_bytes x.epoch.0) (word_bytes (bits_of x.rset)))
    (record { begins = refl; long = refl }) c.put.ensures
    (λ k.
    row (c.opmode_byte.ensures k) (c.lmode_byte.ensures k) (c.holder_byte.ensures k) (c.word_bytes-e.ensures k) (rset k))
    refl refl)
    c.put-2.ensures c.entries_bytes-list.ensures (omega (arith, c.entries_bytes-list.type_inv)) refl)
    refl
