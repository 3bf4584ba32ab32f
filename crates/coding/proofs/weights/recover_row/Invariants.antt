-- `coding::weights::recover_row` meets its contract. Assumes nothing.
use lib.ListN.{length}
use Rattle.kernel.specs.Combine.{nth}
use Rattle.code.specs.Decode as Decode
use Rattle.blocks.proofs.Entries.{Entries, Untouched}
use Rattle.coding.proofs.weights.recover_row.Given as goal

abbrev pub invariant-loop-q : goal.invariant-loop-q
invariant-loop-q l = Entries 12 (Decode.recover (length l.nodes) (nth l.nodes) l.j) l.q l.r × Untouched l.q l.r
