-- An add's tests by the code's, and what it answers. Assumes nothing.
use Rattle.std.specs.Prelude.{Option, None, Some, Ok, Err}
use mathlib.Core.Path.{◌≡◌, refl, sym, ap, ◌∙◌}
use mathlib.Core.Bool.{Bool, true, false, cond, ◌&&◌, not}
use mathlib.Core.List.{[]}
use Prim.Native.Nat.{ℕ}
use lib.Dec.{leb, ltb}
use lib.ListN.{length}
use Rattle.code.specs.Decode.{has}
use Rattle.code.specs.View.{node_set_of}
use Rattle.entries.specs.declared.WriteId.{WriteId}
use Rattle.entries.specs.Entries.{entry_limit, is_listed}
use Rattle.records.specs.declared.Sizes.{Sizes}
use Rattle.records.specs.declared.Write.{Write}
use Rattle.records.specs.declared.Refusal.{Refusal}
use Rattle.records.specs.declared.Refusal.TheVariants.{OutOfPhase, OldEpoch, BeforePrevious, Full}
use Rattle.records.specs.Sizes.{is_redundant, is_client}
use Rattle.records.specs.Node.{Node, takes_add}
use Rattle.records.specs.NodeSteps.{NodeAnswer, refusing, enter_answer, after_previous, add_answer}
use Rattle.records.specs.Client.{Client}
use Rattle.records.specs.Client as Client
use Rattle.records.specs.View.{write_of}
use Rattle.machine.specs.Stripe.{Local, Added, Done, number}
use Rattle.machine.specs.Writing.{wrong_mode, test, previous_test, write_tests, add_tests, completes, added}
use Rattle.machine.proofs.Tests.{add-empty}
use Rattle.calls.specs.declared.Answer.TheVariants as Answer
use Rattle.calls.specs.Answers.{answer_of}

-- ---- the answer

pub said : (b : Bool) → answer_of (cond b Answer.Done Answer.Added) [] ≡ cond b Done Added
said true = refl
said false = refl

-- an add that its tests let through is accepted
pub added-zero : (z : Sizes) (c j : ℕ) (l : Local) → add_tests z c j l.node l.client ≡ None → number (added z c j l.client.hand l).answer ≡ 0
added-zero z c j l e = by l.client.hand refl
  where
    zero : (b : Bool) → number (cond b Done Added) ≡ 0
    zero true = refl
    zero false = refl

    by : (hand : Option Client.Write) → l.client.hand ≡ hand → number (added z c j hand l).answer ≡ 0
    by None h = add-empty z c j l.node l.client h e
    by (Some w) h = zero (completes z j w)

-- ---- the chain of tests

module _ (z : Sizes) (c j : ℕ) (x : Node) (y : Client) where
  module _ (range : (is_client z c && is_redundant z j) ≡ true) where
    pub add-in : add_tests z c j x y ≡ write_tests j y.hand x
    unfolding add_tests
    add-in = rw range

    pub add-without : y.hand ≡ None → add_tests z c j x y ≡ Some OutOfPhase
    unfolding write_tests
    add-without e = add-in ∙ rw e

module _ (j : ℕ) (w : Write) (x : Node) where
  pub add_done : has (node_set_of w.done) j ≡ true → write_tests j (Some (write_of w)) x ≡ Some OutOfPhase
  unfolding write_tests
  add_done e = rw e

  -- ---- the node's own answer is the rest of the chain

  abbrev told : NodeAnswer → Option Refusal
  told (Ok tt) = None
  told (Err why) = Some why

  told-test : (t : Bool) (why : Refusal) (a : NodeAnswer) → told (refusing t why a) ≡ test t why (told a)
  told-test true why a = refl
  told-test false why a = refl

  abbrev room : Option Refusal
  room = test (leb entry_limit (length x.entries)) Full None

  told-room : told (enter_answer x) ≡ room
  told-room = told-test (leb entry_limit (length x.entries)) Full (Ok tt)

  told-previous : (p : Option WriteId) → told (after_previous p x (enter_answer x)) ≡ previous_test p x room
  told-previous None = told-room
  told-previous (Some id) =
      told-test (not (is_listed id x.entries)) (BeforePrevious id) (enter_answer x)
      ∙ ap (test (not (is_listed id x.entries)) (BeforePrevious id)) told-room

  told-node : told (add_answer w x)
      ≡ test (not (takes_add x)) (wrong_mode x) (test (ltb w.epoch.0 x.epoch.0) (OldEpoch x.epoch) (previous_test w.previous x room))
  told-node =
      told-test (not (takes_add x)) (wrong_mode x) _
      ∙ ap (test (not (takes_add x)) (wrong_mode x))
      (told-test (ltb w.epoch.0 x.epoch.0) (OldEpoch x.epoch) _
      ∙ ap (test (ltb w.epoch.0 x.epoch.0) (OldEpoch x.epoch)) (told-previous w.previous))

  module _ (todo : has (node_set_of w.done) j ≡ false) where
    pub add-told : (a : NodeAnswer) → a ≡ add_answer w x → write_tests j (Some (write_of w)) x ≡ told a
    unfolding write_tests
    add-told a e = rw todo (sym (ap told e ∙ told-node))
