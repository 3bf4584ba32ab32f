-- `kernel::plan::pack_all` meets its contract: after i turns the first i are there. Assumes nothing.
use Prim.Native.Nat.{◌+◌, ◌*◌}
use lib.ListN.{get_or}
use Rattle.kernel.specs.Working.{packed}
use Rattle.blocks.proofs.Entries.{Begun}
use Rattle.kernel.proofs.plan.pack_all.Given as goal

abbrev pub invariant-loop-i : goal.invariant-loop-i
invariant-loop-i l = Begun 768 (λ j. packed (get_or l.rows (4 * j) 0) (get_or l.rows (4 * j + 1) 0) (get_or l.rows (4 * j + 2) 0) (get_or l.rows (4 * j + 3) 0)) l.i l.r
