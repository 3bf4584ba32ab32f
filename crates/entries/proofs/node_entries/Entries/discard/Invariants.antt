-- out has what is left of the entries so far. Assumes nothing.
use Rattle.std.proofs.Common.{◌≡◌, map, take}
use Rattle.entries.specs.Entries.{discard}
use Rattle.entries.specs.View.{entry_of, entries_of, ids_of}
use Rattle.entries.proofs.node_entries.Entries.discard.Given as goal

abbrev pub invariant-loop-e : goal.invariant-loop-e
invariant-loop-e l = entries_of l.out ≡ discard (ids_of l.ids) (map entry_of (take l.e-index l.e-items))
