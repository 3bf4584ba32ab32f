-- The count stands in the buffer's first byte, and the first i entries after it. Assumes nothing.
use mathlib.Core.Path.{◌≡◌, refl, ap, ◌∙◌}
use Prim.Native.Nat.{ℕ}
use native.Mathlib.Omega.{arith}
use lib.ListN.{length, get_or, replicate}
use Rattle.entries.specs.Entries.{Entry, entry_limit, new_entry}
use Rattle.entries.specs.View.{blank_id, blank_entry, entry_of, entries_of}
use Rattle.entries.proofs.Lists.{entries-count}
use Rattle.image.specs.Records.{entry_bytes, entries_bytes}
use Rattle.serial.proofs.Slots.{slot-below, slot-past, slots-none, slots-more, slots-all}
use Rattle.serial.proofs.nodes.entries_bytes.Goals as goal
use Rattle.serial.proofs.nodes.entries_bytes.Goals.{then-i-s, else-i-s}

pub loop-i-init : goal.loop-i-init
loop-i-init c = let s = c.args.s in slots-none 8 entry_limit entry_bytes (new_entry blank_id) (entries_of s) s.count (replicate 128 0) (entries-count s) refl

pub put-requires : goal.put-requires
put-requires c = omega (arith, ap length c.entry_bytes.ensures, c.loop-i.invariant.filled.long)

pub loop-i-preserved : goal.loop-i-preserved
loop-i-preserved c = let s = c.args.s in
    let i = c.loop-i.i in
    let at : ℕ → Entry = λ j. entry_of (get_or s.items j blank_entry) in
    let none = new_entry blank_id in
    let slot : entry_of c.if-i-s.e ≡ get_or (entries_of s) i none = elim c.if-i-s.branch [
      | then-i-s w ↦ ap entry_of w.e-is ∙ slot-below s.count at none i w.if-i-s.true
      | else-i-s w ↦ ap entry_of w.e-is ∙ w.blank_entry-e.ensures ∙ slot-past s.count at none i w.if-i-s.false
    ] in
    slots-more 8 entry_limit entry_bytes none (entries_of s) c.loop-i.invariant c.put.ensures (omega arith) (c.entry_bytes.ensures ∙ ap entry_bytes slot) refl

pub returns : goal.returns
unfolding entries_bytes
returns c = slots-all 8 entry_limit entry_bytes (new_entry blank_id) (entries_of c.args.s) c.loop-i.invariant (omega arith)
