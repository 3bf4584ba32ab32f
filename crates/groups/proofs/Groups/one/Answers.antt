-- One bit is set, that of the last node. Assumes nothing.
use mathlib.Core.Path.{◌≡◌, sym, ap, ◌∙◌}
use mathlib.Core.List.{[], ◌∷◌}
use Prim.Native.Nat.{◌+◌, ◌-◌}
use native.Mathlib.Omega.{arith}
use borrow.Author.Tests.{le-leb, lt-leb}
use Rattle.groups.specs.View.{ends_of}
use Rattle.groups.proofs.Ends.{one_of}
use Rattle.groups.proofs.Groups.one.Goals as goal
use Rattle.groups.proofs.Groups.one.Goals.{then-size-eq0-via-then-size-eq0, then-size-eq0-via-else-size-eq0+then-size-gt-ROOM}

pub returns-then-size-eq0 : goal.returns-then-size-eq0
unfolding ends_of
returns-then-size-eq0 c = let size = c.args.size in
    elim c.then-size-eq0.branch [
      | then-size-eq0-via-then-size-eq0 w ↦ rw w.if-size-eq0.true c.none.ensures
      | then-size-eq0-via-else-size-eq0+then-size-gt-ROOM w ↦ rw (lt-leb size 8 (omega arith)) c.none.ensures
    ]

pub returns : goal.returns
returns c = let size = c.args.size in
    let back : size - 1 + 1 ≡ size = omega arith in
    rw (le-leb size 8 (omega arith)) (λ i. record { ends = (sym (one_of (size - 1) (omega arith)) ∙ ap (λ x. ends_of (x ∷ [])) back) i })
