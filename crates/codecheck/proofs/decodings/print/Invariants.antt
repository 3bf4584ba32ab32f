use Rattle.codecheck.proofs.decodings.print.Given as goal

abbrev pub decreases-loop-set : goal.decreases-loop-set
decreases-loop-set g l = l.set
