-- A node record is read back from its bytes, from its fields. Assumes nothing.
use Rattle.std.specs.Prelude.{Option, None, Some}
use mathlib.Core.Bool.{true}
use mathlib.Core.List.{List}
use mathlib.Core.Path.{◌≡◌, refl, ap}
use Prim.Native.Nat.{ℕ, suc, ◌^◌, ◌≤◌, ◌<◌}
use native.Mathlib.Omega.{arith}
use lib.Dec.{leb}
use lib.ListN.{length, get_or}
use borrow.Author.Tests.{leb-true, eqb-true, ne_eqb}
use Rattle.octets.specs.Octets.{word_bytes, number}
use Rattle.octets.proofs.Numbers.{number-low_first}
use Rattle.octets.proofs.Pieces.{length-joined, items_back}
use Rattle.basics.proofs.Tests.{and_both, and_left}
use Rattle.code.specs.Bits.{bits_of}
use Rattle.code.specs.Decode.{NodeSet, set_within}
use Rattle.code.proofs.SetBits.{bits_back, bits_below}
use Rattle.entries.specs.declared.WriteId.{WriteId}
use Rattle.entries.specs.declared.Mark.{Mark}
use Rattle.entries.specs.declared.Mark.TheVariants.{Recent, Old}
use Rattle.entries.specs.Entries.{Entry, entries_within, new_entry}
use Rattle.entries.specs.View.{blank_id}
use Rattle.records.specs.declared.Sizes.{Sizes}
use Rattle.records.specs.declared.Opmode.{Opmode}
use Rattle.records.specs.declared.Opmode.TheVariants.{Norm, Recons, Init}
use Rattle.records.specs.declared.Lmode.{Lmode}
use Rattle.records.specs.declared.Lmode.TheVariants.{Unl, L0, L1, Exp}
use Rattle.records.specs.Node.{Node, holder_within, node_within}
use Rattle.records.specs.Sizes.{is_client}
use Rattle.image.specs.Records.{id_bytes, mark_byte, entry_bytes, opmode_byte, lmode_byte, holder_byte, entries_bytes, node_bytes}
use Rattle.image.specs.Image.{is_whole, node_whole}
use Rattle.image.specs.Reading.{set_from, id_from, mark_from, entry_from, opmode_from, lmode_from, holder_from, entries_from, node_from}
use Rattle.image.proofs.Limits.{entries_at}

-- the largest number of a word
abbrev pub InWord : ℕ → Type 0
InWord n = n < 4294967296

pub word_back : (n : ℕ) → InWord n → number (word_bytes n) ≡ n
word_back n h = number-low_first 4 n h

-- a set of 18
pub set-in : (s : NodeSet) → is_whole s ≡ true → InWord (bits_of s)
set-in s h =
    let e = eqb-true (length s) 18 h in
    let l : bits_of s < 2 ^ 18 = rw e at (bits_below s) in
    omega (arith, l)

pub set_back : (s : NodeSet) → is_whole s ≡ true → set_from (number (word_bytes (bits_of s))) ≡ s
set_back s h =
    let e = eqb-true (length s) 18 h in
    rw (word_back (bits_of s) (set-in s h), ← e) (bits_back s)

-- ---- ids and entries

pub id-back : (x : WriteId) → x.number.0 < 1000000 → id_from (id_bytes x) ≡ x
id-back x h = λ i. record { client = x.client; position = x.position; number = record { 0 = word_back x.number.0 (omega (arith, h)) i } }

mark-back : (m : Mark) → mark_from (mark_byte m) ≡ m
mark-back Recent = refl
mark-back Old = refl

entry-back : (e : Entry) → e.id.number.0 < 1000000 → entry_from (entry_bytes e) ≡ e
entry-back e h = λ i. record { id = id-back e.id h i; mark = mark-back e.mark i; age = e.age }

pub length-entries_bytes : (es : List Entry) → length (entries_bytes es) ≡ 129
unfolding entries_bytes
length-entries_bytes es = ap suc (length-joined 8 16 (λ i. entry_bytes (get_or es i (new_entry blank_id))) (λ i l. refl))

entries-back : (k m : ℕ) (es : List Entry) → length es ≤ 16 → entries_within k m es ≡ true → entries_from (entries_bytes es) ≡ es
unfolding entries_bytes entries_from
entries-back k m es few within =
    items_back 8 16 entry_bytes entry_from (new_entry blank_id) es (λ x. refl) few (λ i l. entry-back (get_or es i (new_entry blank_id)) (entries_at k m es (new_entry blank_id) within i l))

-- ---- the node

opmode-back : (m : Opmode) → opmode_from (opmode_byte m) ≡ m
opmode-back Norm = refl
opmode-back Recons = refl
opmode-back Init = refl

pub lmode-back : (m : Lmode) → lmode_from (lmode_byte m) ≡ m
lmode-back Unl = refl
lmode-back L0 = refl
lmode-back L1 = refl
lmode-back Exp = refl

held_back : (z : Sizes) (c : ℕ) → is_client z c ≡ true → holder_from c ≡ Some c
held_back z c h =
    let one = leb-true 1 c (and_left (leb 1 c) _ h) in
    rw (ne_eqb c 0 (λ e. omega (arith, one, e)))

holder-back : (z : Sizes) (l : Lmode) (h : Option ℕ) → holder_within z l h ≡ true → holder_from (holder_byte h) ≡ h
holder-back z l None w = refl
holder-back z L0 (Some c) w = held_back z c w
holder-back z L1 (Some c) w = held_back z c w
holder-back z Unl (Some c) w = absurd (let n : ◌≡◌ {A = ℕ} 0 1 = cc in omega arith)
holder-back z Exp (Some c) w = absurd (let n : ◌≡◌ {A = ℕ} 0 1 = cc in omega arith)

pub length-node_bytes : (x : Node) → length (node_bytes x) ≡ 140
unfolding node_bytes
length-node_bytes x = omega (arith, length-entries_bytes x.entries)

pub node-back : (z : Sizes) (x : Node) → node_within z x ≡ true → node_whole x ≡ true → node_from (node_bytes x) ≡ x
unfolding node_bytes node_from node_within
node-back z x within whole =
    let a = and_both (holder_within z x.lmode x.holder) _ within in
    let b = and_both (leb x.epoch.0 1000000) _ a.1 in
    let c = and_both (set_within z.n x.rset) _ b.1 in
    let d = and_both (leb (length x.entries) 16) _ c.1 in
    let epoch = leb-true x.epoch.0 1000000 b.0 in
    λ i. record {
      opmode = opmode-back x.opmode i;
      lmode = lmode-back x.lmode i;
      holder = holder-back z x.lmode x.holder a.0 i;
      epoch = record { 0 = word_back x.epoch.0 (omega (arith, epoch)) i };
      rset = set_back x.rset whole i;
      entries = entries-back z.k z.m x.entries (leb-true (length x.entries) 16 d.0) d.1 i;
    }
