-- The first i stand in the buffer. Assumes nothing.
use Rattle.imaging.proofs.Items.{Stand}
use Rattle.imaging.proofs.sections.put_records.Given as goal

abbrev pub invariant-loop-i : goal.invariant-loop-i
invariant-loop-i g l = Stand g.row.W g.T.Imaged.shown l.records l.initial.out l.at l.i l.out
