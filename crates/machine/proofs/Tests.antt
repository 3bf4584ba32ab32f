-- The chains of tests of a swap and of an add: what is known past them. Assumes nothing.
use Rattle.std.specs.Prelude.{Option, None, Some}
use mathlib.Core.Path.{◌≡◌, refl, sym}
use mathlib.Core.Bool.{Bool, true, false, ◌&&◌, ◌||◌, not}
use Prim.Native.Nat.{ℕ, ◌≤◌}
use lib.Dec.{leb, ltb}
use lib.ListN.{length}
use borrow.Author.Tests.{ltb-false, not-false}
use Rattle.code.specs.Decode.{has}
use Rattle.entries.specs.declared.WriteId.{WriteId}
use Rattle.entries.specs.Entries.{entry_limit, finished_limit, write_limit, is_listed}
use Rattle.records.specs.declared.Sizes.{Sizes}
use Rattle.records.specs.declared.Refusal.{Refusal}
use Rattle.records.specs.declared.Refusal.TheVariants.{OutOfRange, OutOfPhase, OldEpoch, Full, Exhausted}
use Rattle.records.specs.Sizes.{is_client, is_position, is_redundant}
use Rattle.records.specs.Node.{Node, is_free, takes_add}
use Rattle.records.specs.Client.{Client, Write, has_write}
use Rattle.machine.specs.Writing.{wrong_mode, test, swap_tests, previous_test, write_tests, add_tests}
use Rattle.basics.proofs.Tests.{not_some}
use Rattle.machine.proofs.Writing.Add.{previous_listed}

-- ---- one test of a chain

module _ (holds : Bool) (why : Refusal) (rest : Option Refusal) where
  pub past : test holds why rest ≡ None → (holds ≡ false) × (rest ≡ None)
  past e = by holds e
    where
      by : (b : Bool) → test b why rest ≡ None → (b ≡ false) × (rest ≡ None)
      by true e = not_some (sym e)
      by false e = (refl, e)

-- ---- a swap

pub record SwapPasses (z : Sizes) (c i : ℕ) (node : Node) (client : Client) : Type 0 where
  pub range : (is_client z c && is_position z i) ≡ true
  pub idle : (has_write client.hand || leb 1 client.round) ≡ false
  pub free : is_free node ≡ true
  pub room : (leb entry_limit (length node.entries) || leb finished_limit (length client.finished)) ≡ false
  pub number : leb write_limit client.next.0 ≡ false

pub swap-out : (z : Sizes) (c i : ℕ) (node : Node) (client : Client) → (is_client z c && is_position z i) ≡ false → swap_tests z c i node client ≡ Some OutOfRange
unfolding swap_tests
swap-out z c i node client e = rw e

pub swap-passes : (z : Sizes) (c i : ℕ) (node : Node) (client : Client) → swap_tests z c i node client ≡ None → SwapPasses z c i node client
unfolding swap_tests
swap-passes z c i node client e =
    let (r2, e2) = past (not (is_client z c && is_position z i)) OutOfRange _ e in
    let (r3, e3) = past (has_write client.hand || leb 1 client.round) OutOfPhase _ e2 in
    let (r4, e4) = past (not (is_free node)) (wrong_mode node) _ e3 in
    let (r7, e7) = past (leb entry_limit (length node.entries) || leb finished_limit (length client.finished)) Full _ e4 in
    let (r8, e8) = past (leb write_limit client.next.0) Exhausted None e7 in
    record { range = not-false _ r2; idle = r3; free = not-false _ r4; room = r7; number = r8 }

-- ---- an add of the write w

pub record AddPasses (z : Sizes) (c j : ℕ) (node : Node) (client : Client) (w : Write) : Type 0 where
  pub held : client.hand ≡ Some w
  pub range : (is_client z c && is_redundant z j) ≡ true
  pub todo : has w.done j ≡ false
  pub takes : takes_add node ≡ true
  pub epoch : node.epoch.0 ≤ w.epoch.0
  pub previous : previous_listed w.previous node.entries ≡ true
  pub room : leb entry_limit (length node.entries) ≡ false

previous-past : (p : Option WriteId) (node : Node) (rest : Option Refusal) → previous_test p node rest ≡ None → (previous_listed p node.entries ≡ true) × (rest ≡ None)
previous-past None node rest e = (refl, e)
previous-past (Some id) node rest e = let (r, q) = past (not (is_listed id node.entries)) _ rest e in (not-false _ r, q)

pub add-passes : (z : Sizes) (c j : ℕ) (node : Node) (client : Client) (w : Write) → client.hand ≡ Some w → add_tests z c j node client ≡ None
    → AddPasses z c j node client w
unfolding add_tests write_tests
add-passes z c j node client w held e =
    let (r2, e2) = past (not (is_client z c && is_redundant z j)) OutOfRange _ e in
    let (r3, e3) = past (has w.done j) OutOfPhase _ (rw held at e2) in
    let (r4, e4) = past (not (takes_add node)) (wrong_mode node) _ e3 in
    let (r5, e5) = past (ltb w.epoch.0 node.epoch.0) (OldEpoch node.epoch) _ e4 in
    let (r6, e6) = previous-past w.previous node _ e5 in
    let (r7, e7) = past (leb entry_limit (length node.entries)) Full None e6 in
    record {
      held = held;
      range = not-false _ r2;
      todo = r3;
      takes = not-false _ r4;
      epoch = ltb-false w.epoch.0 node.epoch.0 r5;
      previous = r6;
      room = r7;
    }

pub add-out : (z : Sizes) (c j : ℕ) (node : Node) (client : Client) → (is_client z c && is_redundant z j) ≡ false → add_tests z c j node client ≡ Some OutOfRange
unfolding add_tests
add-out z c j node client e = rw e

-- without a write in hand
pub add-empty : (z : Sizes) (c j : ℕ) (node : Node) (client : Client) {A : Type 0} → client.hand ≡ None → add_tests z c j node client ≡ None → A
unfolding add_tests write_tests
add-empty z c j node client held e =
    let (r2, e2) = past (not (is_client z c && is_redundant z j)) OutOfRange _ e in not_some (sym (rw held at e2))
