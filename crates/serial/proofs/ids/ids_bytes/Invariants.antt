-- The count stands in the buffer's first byte, and the first i ids after it. Assumes nothing.
use Rattle.entries.specs.Entries.{finished_limit}
use Rattle.entries.specs.View.{blank_id, ids_of}
use Rattle.image.specs.Records.{id_bytes}
use Rattle.serial.proofs.Slots.{Slots}
use Rattle.serial.proofs.ids.ids_bytes.Given as goal

abbrev pub invariant-loop-i : goal.invariant-loop-i
invariant-loop-i l = Slots 6 finished_limit id_bytes blank_id (ids_of l.s) l.i l.out
