-- Sizes that do not fit are impossible ones; else the new group ends where the nodes so far and its own end. Assumes nothing.
use mathlib.Core.Path.{◌≡◌, ap, ◌∙◌}
use mathlib.Core.List.{[], ◌∷◌, ◌++◌}
use Prim.Native.Nat.{◌+◌, ◌-◌}
use native.Mathlib.Omega.{arith}
use borrow.Author.Tests.{le-leb, lt-leb}
use Rattle.groups.specs.Groups.{total}
use Rattle.groups.specs.View.{group_sizes, sizes_from}
use Rattle.groups.proofs.Ends.{with-of, impossible-of, seen, few-byte}
use Rattle.groups.proofs.Groups.with.Goals as goal
use Rattle.groups.proofs.Groups.with.Goals.{then-size-lt-LEAST-via-then-size-lt-LEAST, then-size-lt-LEAST-via-else-size-lt-LEAST+then-nodes-size}

pub returns-then-size-lt-LEAST : goal.returns-then-size-lt-LEAST
unfolding group_sizes
returns-then-size-lt-LEAST c = let a = c.args in
    let n = c.nodes-nodes.ensures.0 in
    elim c.then-size-lt-LEAST.branch [
      | then-size-lt-LEAST-via-then-size-lt-LEAST w ↦ rw (lt-leb 1 a.size (omega arith)) impossible-of
      | then-size-lt-LEAST-via-else-size-lt-LEAST+then-nodes-size w ↦
          rw (le-leb 1 a.size (omega arith), lt-leb (total (group_sizes a.self) + a.size) 8 (omega arith)) impossible-of
    ]

pub returns : goal.returns
returns c = let a = c.args in
    let n = c.nodes-nodes.ensures.0 in
    let e = a.self.ends in
    let small = few-byte a.self (omega arith) in
    let is = seen a.self small in
    let t = ap total is in
    let last : c.nodes-nodes.result + a.size - 1 ≡ total (sizes_from 8 e 0) + (a.size - 1) = omega (arith, n, t) in
    let back : a.size - 1 + 1 ≡ a.size = omega arith in
    rw (le-leb 1 a.size (omega arith), le-leb (total (group_sizes a.self) + a.size) 8 (omega arith), last, is)
    (with-of e (a.size - 1) small (omega arith) (omega (arith, n, t)) ∙ ap (λ s. sizes_from 8 e 0 ++ (s ∷ [])) back)
