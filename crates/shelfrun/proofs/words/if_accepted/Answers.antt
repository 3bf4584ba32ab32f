-- By the answer's number. Assumes nothing.
use native.Mathlib.Omega.{arith}
use Rattle.shelfrun.proofs.Turns.{when-accepted, when-refused}
use Rattle.shelfrun.proofs.words.if_accepted.Goals as goal

pub returns-then-number-eq0 : goal.returns-then-number-eq0
returns-then-number-eq0 c = when-accepted _ _ c.args.answer c.number.result c.number.ensures (omega (arith, c.if-number-eq0.true))

pub returns-else-number-eq0 : goal.returns-else-number-eq0
returns-else-number-eq0 c = when-refused _ _ c.args.answer c.number.result c.number.ensures (λ e. omega (arith, c.if-number-eq0.false))
