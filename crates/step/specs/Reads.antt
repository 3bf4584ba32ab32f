-- What a read on a stripe by value is answered, and the part that it hands back. Assumes nothing.
use Rattle.std.specs.Prelude.{List, ◌≡◌, ℕ, length}
use Rattle.machine.specs.Stripe.{answered}
use Rattle.machine.specs.Calls as Calls
use Rattle.machine.specs.Calls.{step}
use Rattle.records.specs.declared.Sizes.{Sizes}
use Rattle.calls.specs.declared.Answer.{Answer}
use Rattle.calls.specs.Answers.{answer_of, read_as, shown_part}
use Rattle.step.specs.declared.Stripe.{Stripe}
use Rattle.step.specs.View.{stripe_of}

-- with tables of these lengths, whatever is in them, the answer is the machine's, and the block that it names is the one that the machine shows
abbrev pub Answers : Sizes → ℕ → Stripe → ℕ → ℕ → Answer → Type 0
Answers z i x blocks spare answer =
    (live kept differences : List ℕ) → blocks ≡ length live → spare ≡ length kept →
    let s = stripe_of z x live kept differences in
    read_as answer z.b i s ≡ step z (Calls.Read i) s

-- the answer, with the part that is handed back, is the machine's; the part is what the answer names, and nothing where it names nothing
pub record Reads (z : Sizes) (i : ℕ) (x : Stripe) (blocks spare : List ℕ) (answer : Answer) (part : List ℕ) : Type 0 where
  pub said : (differences : List ℕ) →
      let s = stripe_of z x blocks spare differences in
      answered (answer_of answer part) s ≡ step z (Calls.Read i) s
  pub shows : part ≡ shown_part answer z.b i blocks spare
