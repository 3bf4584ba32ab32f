-- The calls that are left.
use Rattle.callbench.proofs.runs.run_one.Given as goal

abbrev pub decreases-loop-nodes : goal.decreases-loop-nodes
decreases-loop-nodes l = l.now.left
