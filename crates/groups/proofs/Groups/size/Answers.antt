-- One bit at a time: what is left of the groups answers for the whole. Assumes nothing.
use mathlib.Core.Path.{◌≡◌, refl, sym, ap, ◌∙◌}
use Prim.Native.Nat.{ℕ, ◌≤◌}
use native.Mathlib.Omega.{arith}
use lib.ListN.{get_or}
use borrow.Author.Rules.{rules}
use Rattle.groups.specs.Groups.{total}
use Rattle.groups.specs.View.{group_sizes, sizes_from}
use Rattle.groups.specs.declared.Groups.{Groups}
use Rattle.groups.proofs.Ends.{size-here, size-next, size-on, size_none, seen, few-byte}
use Rattle.groups.proofs.Groups.size.Goals as goal
use Rattle.groups.proofs.Groups.size.Goals.{then-ends-eq1+else-left-eq0, else-ends-eq1}

-- the groups are a byte
is_seen : (g : Groups) (i : ℕ) → total (group_sizes g) ≤ 6 → get_or (sizes_from 8 g.ends 0) i 0 ≡ get_or (group_sizes g) i 0
is_seen g i few = ap (λ sizes. get_or sizes i 0) (sym (seen g (few-byte g (omega (arith, few)))))

pub loop-w-init : goal.loop-w-init
loop-w-init c = (refl, search rules)

pub returns-then-left-eq0 : goal.returns-then-left-eq0
returns-then-left-eq0 c =
    let l = c.loop-w in
    sym (size-here l._w l.ends l.run l.left (omega arith) c.if-ends-eq1.true c.if-left-eq0.true) ∙ (l.invariant.0 ∙ is_seen c.args.self c.args.i c.requires)

pub loop-w-preserved : goal.loop-w-preserved
loop-w-preserved c =
    let l = c.loop-w in
    elim c.if-ends-eq1.branch [
      | then-ends-eq1+else-left-eq0 w ↦ (
        rw (w.left-is, w.run-is) (sym (size-next l._w l.ends l.run l.left (omega arith) w.if-ends-eq1.true (omega arith)) ∙ l.invariant.0),
        omega arith,
      )
      | else-ends-eq1 w ↦ (rw (w.left-is, w.run-is) (sym (size-on l._w l.ends l.run l.left (omega arith) w.if-ends-eq1.false) ∙ l.invariant.0), omega arith)
    ]

pub returns : goal.returns
returns c = let l = c.loop-w in sym (size_none l._w l.ends l.run l.left (omega arith)) ∙ (l.invariant.0 ∙ is_seen c.args.self c.args.i c.requires)
