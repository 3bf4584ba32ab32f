-- By the number of data blocks. Assumes nothing.
use native.Mathlib.Nat.{mod-lt}
use native.Mathlib.Omega.{arith}
use borrow.Author.Rules.{rules}
use Rattle.layout.proofs.Ranges.{byte, home-few, home-many, home-in}
use Rattle.layout.proofs.block_home.Goals as goal
use Rattle.layout.proofs.block_home.Goals.{then-k-eq0-via-then-k-eq0, then-k-eq0-via-else-k-eq0+then-k-gt-DATA_MOST}

pub returns-then-k-eq0 : goal.returns-then-k-eq0
returns-then-k-eq0 c = let a = c.args in
    elim c.then-k-eq0.branch [ then-k-eq0-via-then-k-eq0 w ↦ home-few a.k a.b (omega arith) | then-k-eq0-via-else-k-eq0+then-k-gt-DATA_MOST w ↦ home-many a.k a.b (omega arith) ]

pub overflow_cast-result : goal.overflow_cast-result
overflow_cast-result c = let a = c.args in byte a.k (omega arith) (omega arith) a.b

pub overflow_add-result : goal.overflow_add-result
overflow_add-result c = let a = c.args in
    let below = mod-lt a.b {m = a.k} (omega arith) in
    search rules

pub returns : goal.returns
returns c = let a = c.args in home-in a.k a.b (omega arith) c.if-k-gt-DATA_MOST.false
