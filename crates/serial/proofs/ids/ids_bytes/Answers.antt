-- The count stands in the buffer's first byte, and the first i ids after it. Assumes nothing.
use mathlib.Core.Path.{◌≡◌, refl, ap, ◌∙◌}
use Prim.Native.Nat.{ℕ}
use native.Mathlib.Omega.{arith}
use lib.ListN.{length, get_or, replicate}
use Rattle.entries.specs.Entries.{finished_limit}
use Rattle.entries.specs.declared.WriteId.{WriteId}
use Rattle.entries.specs.View.{blank_id, ids_of}
use Rattle.entries.proofs.Lists.{ids-count}
use Rattle.image.specs.Records.{id_bytes, ids_bytes}
use Rattle.serial.proofs.Slots.{slot-below, slot-past, slots-none, slots-more, slots-all}
use Rattle.serial.proofs.ids.ids_bytes.Goals as goal
use Rattle.serial.proofs.ids.ids_bytes.Goals.{then-i-s, else-i-s}

pub loop-i-init : goal.loop-i-init
loop-i-init c = let s = c.args.s in slots-none 6 finished_limit id_bytes blank_id (ids_of s) s.count (replicate 48 0) (ids-count s) refl

pub put-requires : goal.put-requires
put-requires c = omega (arith, ap length c.id_bytes.ensures, c.loop-i.invariant.filled.long)

pub loop-i-preserved : goal.loop-i-preserved
loop-i-preserved c = let s = c.args.s in
    let i = c.loop-i.i in
    let at : ℕ → WriteId = λ j. get_or s.items j blank_id in
    let slot : c.if-i-s.x ≡ get_or (ids_of s) i blank_id = elim c.if-i-s.branch [
      | then-i-s w ↦ w.x-is ∙ slot-below s.count at blank_id i w.if-i-s.true
      | else-i-s w ↦ w.x-is ∙ w.blank_id-x.ensures ∙ slot-past s.count at blank_id i w.if-i-s.false
    ] in
    slots-more 6 finished_limit id_bytes blank_id (ids_of s) c.loop-i.invariant c.put.ensures (omega arith) (c.id_bytes.ensures ∙ ap id_bytes slot) refl

pub returns : goal.returns
unfolding ids_bytes
returns c = slots-all 6 finished_limit id_bytes blank_id (ids_of c.args.s) c.loop-i.invariant (omega arith)
