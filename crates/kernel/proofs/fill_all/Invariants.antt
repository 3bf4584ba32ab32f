-- `kernel::fill_all` meets its contract: after j turns the bytes of the first j blocks are there. Assumes nothing.
use Rattle.kernel.specs.Working.{Filled}
use Rattle.kernel.proofs.fill_all.Given as goal

abbrev pub invariant-loop-j : goal.invariant-loop-j
invariant-loop-j l = Filled l.m l.b l.p l.n l.s l.plan l.initial.out l.j l.out
