-- `kernel::bits::sixteen` meets its contract: after l turns the first l bytes are there. Assumes nothing.
use Prim.Native.Nat.{ℕ, ◌+◌, ◌<◌}
use mathlib.Core.Path.{◌≡◌}
use lib.ListN.{get_or}
use Rattle.kernel.specs.Working.{down}
use Rattle.kernel.proofs.bits.sixteen.Given as goal

abbrev pub invariant-loop-l : goal.invariant-loop-l
invariant-loop-l g l = (k : ℕ) → k < l.l → get_or l.byte-items k 0 ≡ down l.s l.x l.y l.z (l.e + k) g.W.Bits.many 0
