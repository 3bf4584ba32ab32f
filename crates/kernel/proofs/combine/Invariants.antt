-- `kernel::combine` meets its contract: after each tile the bytes of all blocks up to its end are there. Assumes nothing.
use mathlib.Core.Path.{◌≡◌}
use Prim.Native.Nat.{◌≤◌, ◌-◌}
use lib.ListN.{length}
use Rattle.kernel.proofs.Columns.{Columns}
use Rattle.kernel.proofs.combine.Given as goal

abbrev pub invariant-loop-p : goal.invariant-loop-p
invariant-loop-p l = (l.p ≤ l.b) × (length l.s ≡ 12296) × Columns l.m l.b l.t l.starts l.rows l.p l.out

abbrev pub decreases-loop-p : goal.decreases-loop-p
decreases-loop-p l = l.b - l.p
