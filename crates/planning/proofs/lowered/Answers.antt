-- A small number less 3. Assumes nothing.
use native.Mathlib.Omega.{arith}
use mir.Facts.{to_z-of_z, to_z_pos}
use mir.Syntax.{w64}
use Rattle.planning.proofs.Pairs.{lowered-fits}
use Rattle.planning.proofs.lowered.Goals as goal

pub overflow_sub-result : goal.overflow_sub-result
overflow_sub-result c = rw (to_z_pos w64 {n = c.args.raised} (omega arith)) (lowered-fits c.args.raised (omega arith))

pub returns : goal.returns
returns c = rw (to_z_pos w64 {n = c.args.raised} (omega arith)) (to_z-of_z (lowered-fits c.args.raised (omega arith)))
