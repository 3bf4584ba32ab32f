-- `coding::weights::span` meets its contract: at place l r is the logarithm of the product of the nodes after the first a up to l. Assumes nothing.
use mathlib.Core.Path.{◌≡◌}
use Prim.Native.Nat.{◌≤◌, ◌-◌, ◌*◌}
use Rattle.gf256.specs.Field.{power}
use Rattle.kernel.specs.Combine.{nth}
use Rattle.coding.specs.Weights.{factors}
use Rattle.coding.proofs.weights.span.Given as goal

abbrev pub invariant-loop-l : goal.invariant-loop-l
invariant-loop-l l = (l.r ≤ 254 * (l.l - l.a)) × (power l.r ≡ factors (nth l.nodes) l.a (l.l - l.a) (l.j - 1))
