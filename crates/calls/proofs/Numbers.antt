-- The answer with the number 1, and what it leaves. Assumes nothing.
use mathlib.Core.Path.{◌≡◌, ap, subst}
use mathlib.Core.List.{List}
use Prim.Native.Nat.{ℕ}
use native.Mathlib.Omega.{arith}
use Rattle.records.specs.declared.Refusal.TheVariants.{OutOfLimits}
use Rattle.records.proofs.Refusals.{why-one}
use Rattle.machine.specs.Stripe.{number}
use Rattle.calls.specs.declared.Answer.{Answer}
use Rattle.calls.specs.declared.Answer.TheVariants.{Accepted, Shown, Added, Done, Rebuilt, Told, Refused}
use Rattle.calls.specs.Answers.{answer_of, Left}

-- one answer has it
pub answer-one : (a : Answer) (shown : List ℕ) → number (answer_of a shown) ≡ 1 → a ≡ Refused OutOfLimits
answer-one Accepted shown e = absurd (omega arith)
answer-one (Shown source) shown e = absurd (omega arith)
answer-one Added shown e = absurd (omega arith)
answer-one Done shown e = absurd (omega arith)
answer-one Rebuilt shown e = absurd (omega arith)
answer-one (Told finding) shown e = absurd (omega arith)
answer-one (Refused why) shown e = ap Refused (why-one why e)

-- so it hands back the very records
pub left_one : (a : Answer) (shown : List ℕ) {P : Type 0} → number (answer_of a shown) ≡ 1 → Left a P → P
left_one a shown {P} one x = subst (λ b. Left b P) (answer-one a shown one) x
