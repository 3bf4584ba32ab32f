-- The first i pairs stand in the buffer. Assumes nothing.
use mathlib.Core.Path.{refl}
use Prim.Native.Nat.{◌+◌}
use lib.ListN.{get_or}
use Rattle.imaging.specs.Imaging.{pair_bytes}
use Rattle.imaging.proofs.Items.{Items}
use Rattle.imaging.proofs.head.put_pairs.Given as goal

abbrev pub invariant-loop-i : goal.invariant-loop-i
invariant-loop-i l = Items 8 6 (λ j. pair_bytes (get_or l.bounds j 0) (get_or l.bounds (j + 1) 0)) (λ j. refl) l.initial.out 4 l.i l.out
