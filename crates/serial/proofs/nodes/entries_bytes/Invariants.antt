-- The count stands in the buffer's first byte, and the first i entries after it. Assumes nothing.
use Rattle.entries.specs.Entries.{entry_limit, new_entry}
use Rattle.entries.specs.View.{blank_id, entries_of}
use Rattle.image.specs.Records.{entry_bytes}
use Rattle.serial.proofs.Slots.{Slots}
use Rattle.serial.proofs.nodes.entries_bytes.Given as goal

abbrev pub invariant-loop-i : goal.invariant-loop-i
invariant-loop-i l = Slots 8 entry_limit entry_bytes (new_entry blank_id) (entries_of l.s) l.i l.out
