-- Demand 3 of every list of calls of `step::play` and `step::read`. Assumes nothing.
use mathlib.Core.Path.{◌≡◌, refl, subst}
use mathlib.Core.Logic.{◌⊎◌, inl, inr}
use mathlib.Core.List.{List}
use Prim.Native.Nat.{ℕ}
use Rattle.machine.specs.Stripe.{number, answered}
use Rattle.machine.specs.Stripe as Machine
use Rattle.machine.specs.Calls as Calls
use Rattle.machine.specs.Calls.{step}
use Rattle.machine.specs.Guarantee.{Holds, KeepsDone, ReadsPart}
use Rattle.machine.proofs.Theorem.{demand3, keeps_done, reads_part}
use Rattle.records.specs.declared.Sizes.{Sizes}
use Rattle.calls.specs.declared.Answer.{Answer}
use Rattle.calls.specs.Answers.{answer_of}
use Rattle.calls.specs.Calls.{call_of}
use Rattle.step.specs.View.{Stored, stored_of}
use Rattle.step.specs.Plays.{shown_by}
use Rattle.calls.proofs.Numbers.{answer-one, left_one}
use Rattle.runs.specs.Played.{PlaysOne, played, shown, Demand3Played, KeepsDonePlayed, ReadsPartPlayed}
use Rattle.runs.proofs.Runs.{Stepped, refused-one, every-run}

-- with sizes of its own, answered 1, it leaves the very stripe and the very tables
module _ (z y : Sizes) (s s' : Stored) (call : Calls.Call) (answer : Answer) (block : List ℕ) where
  permits : answered (answer_of answer block) (stored_of y s') ≡ step y call (stored_of y s) → (number (answer_of answer block) ≡ 1 → s' ≡ s)
      → (y ≡ z) ⊎ (number (answer_of answer block) ≡ 1) → Stepped z call (stored_of z s) (answer_of answer block) (stored_of z s')
  permits said left (inl e) =
      record {
        sizes = z;
        is = subst (λ x. answered (answer_of answer block) (stored_of x s') ≡ step x call (stored_of x s)) e said;
        permitted = inl refl;
      }
  permits said left (inr one) =
      let is = answer-one answer block one in
      refused-one z call (stored_of z s) (λ i. answered (answer_of (is i) block) (stored_of z (left one i)))

steps-one : (z y : Sizes) (s : Stored) (call : Calls.Call) (a : Machine.Answer) (s' : Stored) → (y ≡ z) ⊎ (number a ≡ 1) → PlaysOne s y call a s'
    → Stepped z call (stored_of z s) a (stored_of z s')
steps-one z y s call a s' permitted (played {call = c} {value = value} {answer = answer} p) =
    let block = shown_by y c answer s'.blocks s'.spare in
    permits z y s s' (call_of c value) answer block p.said (λ one. left_one answer block one p.left) permitted
steps-one z y s call a s' permitted (shown {i = i} {answer = answer} {part = part} r) =
    permits z y s s (Calls.Read i) answer part (r.said s.differences) (λ one. refl) permitted

pub demand3-played : Demand3Played
demand3-played = every-run stored_of PlaysOne Holds demand3 steps-one

pub keeps-done-played : KeepsDonePlayed
keeps-done-played = every-run stored_of PlaysOne KeepsDone keeps_done steps-one

pub reads-part-played : ReadsPartPlayed
reads-part-played = every-run stored_of PlaysOne ReadsPart reads_part steps-one
