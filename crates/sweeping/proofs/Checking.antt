-- The machine's check past its tests of limits and range: with no write in hand, at a node that is not done, by what the node tells. Assumes nothing.
use Rattle.std.specs.Prelude.{None, Some}
use mathlib.Core.Path.{◌≡◌, refl, sym, ap, ◌∙◌}
use mathlib.Core.Bool.{Bool, true, false, cond, not}
use mathlib.Core.List.{[]}
use Prim.Native.Nat.{ℕ}
use Rattle.code.specs.Decode.{has, excluding}
use Rattle.code.specs.View.{node_set_of}
use Rattle.entries.specs.Entries.{is_recent_in, previous_recent}
use Rattle.records.specs.declared.CheckAnswer.{CheckAnswer}
use Rattle.records.specs.declared.CheckAnswer.TheVariants as Told
use Rattle.records.specs.declared.ClientRecord.{ClientRecord}
use Rattle.records.specs.declared.Finding.TheVariants as Finding
use Rattle.records.specs.declared.Refusal.TheVariants.{OutOfPhase}
use Rattle.records.specs.declared.Write.{Write}
use Rattle.records.specs.Client.{Client, with_hand}
use Rattle.records.specs.NodeSteps.{check_answer}
use Rattle.records.specs.View.{write_of, client_of}
use Rattle.machine.specs.Stripe.{Outcome, Local, CheckInit, CheckGc, NoChange, answered, refused, guard}
use Rattle.machine.specs.Writing.{with_done, forgetting, with_client, check_write}
use Rattle.calls.specs.declared.Answer.TheVariants as Answer
use Rattle.calls.specs.Answers.{Meets}

pub check-empty : (j : ℕ) (client : ClientRecord) (l : Local) → client.hand ≡ None → refused OutOfPhase l ≡ check_write j (client_of client).hand l
unfolding check_write
check-empty j client l e = rw e

module _ (j : ℕ) (client : ClientRecord) (w : Write) (l : Local) where
  abbrev left : Client
  left = with_hand (Some (with_done (write_of w) (excluding j (node_set_of w.done)))) l.client

  abbrev forgot : Client
  forgot = with_hand (Some (forgetting (write_of w))) l.client

  abbrev by-told : CheckAnswer → Outcome Local
  by-told Told.Init = answered CheckInit (with_client left l)
  by-told Told.Gc = answered CheckGc (with_client forgot l)
  by-told Told.NoChange = answered NoChange l

  -- the node's tests are those of the machine: whether the own id is recent there, and the previous one
  asked : (own previous : Bool) → by-told (cond (not own) Told.Init (cond previous Told.NoChange Told.Gc))
      ≡ cond (not own) (by-told Told.Init) (cond previous (by-told Told.NoChange) (by-told Told.Gc))
  asked true true = refl
  asked true false = refl
  asked false previous = refl

  module _ (held : client.hand ≡ Some w) where
    pub check-undone : has (node_set_of w.done) j ≡ false → refused OutOfPhase l ≡ check_write j (client_of client).hand l
    unfolding check_write guard
    check-undone e = rw (held, e)

    module _ (there : has (node_set_of w.done) j ≡ true) {told : CheckAnswer} (e : told ≡ check_answer w l.node) where
      told-seen : {answer : CheckAnswer} → told ≡ answer → by-told answer ≡ check_write j (client_of client).hand l
      unfolding check_write guard
      told-seen q =
          ap by-told (sym q ∙ e) ∙ asked (is_recent_in w.id l.node.entries) (previous_recent w.previous l.node.entries) ∙ rw (held, there)

      pub check-init : {y : Client} {same : Type 0} → told ≡ Told.Init → y ≡ left
          → Meets (check_write j (client_of client).hand l) (Answer.Told (Finding.Check Told.Init)) [] (with_client y l) same
      check-init q c = record { said = rw c (told-seen q); left = tt }

      pub check-gc : {y : Client} {same : Type 0} → told ≡ Told.Gc → y ≡ forgot
          → Meets (check_write j (client_of client).hand l) (Answer.Told (Finding.Check Told.Gc)) [] (with_client y l) same
      check-gc q c = record { said = rw c (told-seen q); left = tt }

      pub check-same : {same : Type 0} → told ≡ Told.NoChange
          → Meets (check_write j (client_of client).hand l) (Answer.Told (Finding.Check Told.NoChange)) [] l same
      check-same q = record { said = told-seen q; left = tt }
