-- The highest bit is that of the last redundant node. Assumes nothing.
use mathlib.Core.Path.{◌≡◌, ap, ◌∙◌}
use Prim.Native.Nat.{◌+◌, ◌-◌}
use native.Mathlib.Omega.{arith}
use Rattle.groups.specs.Groups.{groups_fit}
use Rattle.groups.specs.View.{group_sizes}
use Rattle.groups.proofs.Ends.{fit_all}
use Rattle.groups.proofs.Groups.fit.Goals as goal

pub returns : goal.returns
returns c = let a = c.args in
    let back : a.redundant - 1 + 1 ≡ a.redundant = omega arith in
    fit_all a.self (a.redundant - 1) (omega arith) ∙ ap (λ r. groups_fit r (group_sizes a.self)) back
