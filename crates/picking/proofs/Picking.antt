-- A pick, by the outcomes of its tests. Assumes nothing.
use mathlib.Core.Path.{◌≡◌, refl, sym, ◌∙◌}
use mathlib.Core.Bool.{true, false}
use mathlib.Core.List.{List, []}
use Prim.Native.Nat.{ℕ, ◌≤◌, ◌<◌}
use native.Mathlib.Omega.{arith}
use lib.Dec.{eqb}
use lib.ListN.{length}
use borrow.Author.Tests.{lt-ltb, le-ltb, le-leb, lt-leb}
use Rattle.basics.proofs.Tests.{and_right}
use Rattle.code.specs.Decode.{size}
use Rattle.machine.specs.Stripe.{Accepted, Outcome, answered, refused, guard, Whole}
use Rattle.basics.specs.Lists.{every_of}
use Rattle.machine.specs.Rebuild.{holding, picked_set, needed_size, largest_epoch, picked, pick_now}
use Rattle.records.specs.declared.Sizes.{Sizes}
use Rattle.records.specs.declared.ClientRecord.{ClientRecord}
use Rattle.records.specs.declared.Refusal.{Refusal}
use Rattle.records.specs.declared.Refusal.TheVariants.{Exhausted, TooFew}
use Rattle.records.specs.Sizes.{sizes_within}
use Rattle.records.specs.Node.{epoch_limit, held_at_l1}
use Rattle.records.specs.View.{client_of}
use Rattle.stripe.specs.declared.nodes.Nodes.{Nodes}
use Rattle.stripe.specs.declared.seen.Seen.{Seen}
use Rattle.stripe.specs.declared.seen.Change.{Change}
use Rattle.stripe.specs.Seen.{Sees, keep, applied}
use Rattle.stripe.specs.View.{nodes_of}
use Rattle.calls.specs.declared.Answer.{Answer}
use Rattle.calls.specs.declared.Answer.TheVariants as Answers
use Rattle.calls.specs.Answers.{Left, answer_of, whole}
use Rattle.rebuild.specs.Promises.{Admitted, not_held}
use Rattle.picking.specs.declared.Picked.{Picked}
use Rattle.picking.specs.Picking.{pick_held, seen_whole, Picks, PickAdmitted}
use Rattle.calls.proofs.Left.{unchanged}
use Rattle.picking.proofs.PickedSets.{picked-invertible, needed-least}

-- ---- the returns of a pick

module _ (z : Sizes) (x : Nodes) {y : ClientRecord} {blocks spare : List ℕ} {o : Outcome Whole} {r : Picked} where
  -- refused, with the very record
  pub picks-refused : {why : Refusal} → r ≡ record { answer = Answers.Refused why; client = y; change = keep }
      → refused why (seen_whole z x y blocks spare) ≡ o → Picks o z x y blocks spare r
  picks-refused {why} e q = rw e (record { said = q; left = unchanged why (refl, refl) })

  -- answered, with a record that may be another
  pub picks-made : {a : Answer} {y' : ClientRecord} {change : Change} → r ≡ record { answer = a; client = y'; change = change }
      → answered (answer_of a []) (whole (applied change (nodes_of z.n x)) (client_of y') blocks spare) ≡ o
      → Left a ((y' ≡ y) × (change ≡ keep)) → Picks o z x y blocks spare r
  picks-made e q l = rw e (record { said = q; left = l })

  -- as a part of the call does, which is what the whole does here
  pub picks-as : {part : Outcome Whole} → Picks part z x y blocks spare r → part ≡ o → Picks o z x y blocks spare r
  picks-as m q = record { said = m.said ∙ q; left = m.left }

-- past the tests of a pick
pub pick-admitted : {z : Sizes} {c : ℕ} (x : Nodes) {s : Seen} {y : ClientRecord} → (sizes_within z ≡ true → Sees z c (nodes_of z.n x) s) → Admitted z c s y
    → PickAdmitted z x
pick-admitted {z} {c} x {s} sees a = record {
  sizes = a.sizes;
  nodes = and_right (eqb (length (nodes_of z.n x)) z.n) _ (sym (sees a.sizes).within ∙ a.nodes);
}

-- ---- a pick with all nodes held

module _ (z : Sizes) (e : ℕ) (w : Whole) where
  pub held-few : size (picked_set z w.nodes) < needed_size z w.nodes → refused (TooFew (size (picked_set z w.nodes))) w ≡ pick_held z e w
  unfolding pick_held guard
  held-few l = rw (lt-ltb (size (picked_set z w.nodes)) (needed_size z w.nodes) l)

  pub held-enough : length w.nodes ≡ z.n → z.n ≤ 18 → z.k ≤ z.n → needed_size z w.nodes ≤ size (picked_set z w.nodes)
      → answered Accepted (picked z (picked_set z w.nodes) e w) ≡ pick_held z e w
  unfolding pick_held guard
  held-enough count few kn l =
      let least = needed-least z w.nodes in
      rw (le-ltb (size (picked_set z w.nodes)) (needed_size z w.nodes) l, picked-invertible z w.nodes count few kn (omega arith))

-- ---- a pick in its phase

module _ (z : Sizes) (c : ℕ) (w : Whole) where
  pub now-exhausted : epoch_limit ≤ largest_epoch w.nodes → refused Exhausted w ≡ pick_now z c w
  unfolding pick_now guard
  now-exhausted l = rw (le-leb epoch_limit (largest_epoch w.nodes) l)

  module _ (l : largest_epoch w.nodes < epoch_limit) where
    pub now-lost : every_of (held_at_l1 c) w.nodes ≡ false → not_held z c w ≡ pick_now z c w
    unfolding pick_now guard holding
    now-lost e = rw (lt-leb epoch_limit (largest_epoch w.nodes) l, e)

    pub now-held : every_of (held_at_l1 c) w.nodes ≡ true → pick_held z (largest_epoch w.nodes) w ≡ pick_now z c w
    unfolding pick_now pick_held guard holding
    now-held e = rw (lt-leb epoch_limit (largest_epoch w.nodes) l, e)
