-- `code::ranges::Limits::hold` meets its contract. Assumes nothing.
use mathlib.Core.Path.{sym, ◌∙◌}
use Prim.Native.Nat.{◌-◌}
use native.Mathlib.Omega.{arith}
use borrow.Author.Tests.{le-leb, lt-leb, lt-ltb}
use Rattle.code.specs.Code.{code_sizes}
use Rattle.code.proofs.LimitLaws.{sizes-unfit}
use Rattle.code.proofs.ranges.Limits.hold.Goals as goal
use Rattle.code.proofs.ranges.Limits.hold.Goals.{then-n-k-via-then-n-k, then-n-k-via-else-n-k+then-n-k-gt-REDUNDANT_MOST, then-n-k-via-else-n-k+else-n-k-gt-REDUNDANT_MOST+then-k-n}

pub returns-then-k-lt-DATA_LEAST : goal.returns-then-k-lt-DATA_LEAST
returns-then-k-lt-DATA_LEAST c = let a = c.args in sym (sizes-unfit a.k a.n a.b (λ s. omega arith))

pub returns-then-n-k : goal.returns-then-n-k
returns-then-n-k c = let a = c.args in
    sym (sizes-unfit a.k a.n a.b (λ s. elim c.then-n-k.branch [
      | then-n-k-via-then-n-k w ↦ omega arith
      | then-n-k-via-else-n-k+then-n-k-gt-REDUNDANT_MOST w ↦ omega arith
      | then-n-k-via-else-n-k+else-n-k-gt-REDUNDANT_MOST+then-k-n w ↦ omega arith
    ]))

pub returns-then-b-ge1 : goal.returns-then-b-ge1
unfolding code_sizes
returns-then-b-ge1 c = let a = c.args in
    rw (le-leb 2 a.k (omega arith), le-leb a.k 12 (omega arith), lt-ltb a.k a.n (omega arith))
    (rw (le-leb (a.n - a.k) 6 (omega arith), le-leb (a.n - a.k) a.k (omega arith), le-leb 1 a.b (omega arith)))

pub returns-else-b-ge1 : goal.returns-else-b-ge1
returns-else-b-ge1 c = let a = c.args in lt-leb 1 a.b (omega arith) ∙ sym (sizes-unfit a.k a.n a.b (λ s. omega arith))
