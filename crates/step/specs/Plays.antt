-- What playing a call on a stripe by value is answered and leaves. Assumes nothing.
use Rattle.std.specs.Prelude.{List, [], ◌≡◌, ℕ}
use Rattle.machine.specs.Stripe.{answered}
use Rattle.machine.specs.Calls.{step}
use Rattle.records.specs.declared.Sizes.{Sizes}
use Rattle.calls.specs.declared.Answer.{Answer}
use Rattle.calls.specs.declared.Call.{Call}
use Rattle.calls.specs.declared.Call.TheVariants.{Read, Pick, Step}
use Rattle.calls.specs.Answers.{answer_of, shown_part, Left}
use Rattle.calls.specs.Calls.{call_of}
use Rattle.step.specs.View.{Stored, stored_of}

-- a read shows the block that its answer names, other calls show nothing
abbrev pub shown_by : Sizes → Call → Answer → List ℕ → List ℕ → List ℕ
shown_by z (Read i) answer blocks spare = shown_part answer z.b i blocks spare
shown_by z (Pick c) answer blocks spare = []
shown_by z (Step call) answer blocks spare = []

pub record Plays (z : Sizes) (call : Call) (value : List ℕ) (before : Stored) (answer : Answer) (after : Stored) : Type 0 where
  -- the answer, with the block shown, and the stripe that is left are the machine's
  pub said : answered (answer_of answer (shown_by z call answer after.blocks after.spare)) (stored_of z after)
      ≡ step z (call_of call value) (stored_of z before)
  -- a refusal but 9 and 10 hands back the very stripe and tables, whatever the sizes
  pub left : Left answer (after ≡ before)
