-- `gf256::unless_zero` meets its contract: 0 times r is 0, and 1 times r is r. Assumes nothing.
use mathlib.Core.Logic.{⊎_elim}
use native.Mathlib.Nat.{eq-zero-or-pos, zero-mul, one-mul}
use borrow.Author.Rules.{rules}
use Rattle.gf256.proofs.unless_zero.Goals as goal

pub overflow_mul-result : goal.overflow_mul-result
overflow_mul-result c = let flag = c.nonzero.ensures in
    ⊎_elim (λ z. rw (flag.1 z) (search rules)) (λ p. rw (flag.2 p) (search rules)) (eq-zero-or-pos c.args.a)

pub returns : goal.returns
returns c = let flag = c.nonzero.ensures in (λ z. rw (flag.1 z) (zero-mul _), λ p. rw (flag.2 p) (one-mul _))
