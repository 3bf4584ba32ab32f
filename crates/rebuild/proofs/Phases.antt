-- The phases of a rebuild: what the limits of the client's record say of the phase's node and epoch, and the calls out of their phase. Assumes nothing.
use mathlib.Core.Path.{◌≡◌, refl, ◌∙◌}
use mathlib.Core.Logic.{inl, inr}
use mathlib.Core.Bool.{Bool, true, false, cond, ◌&&◌, not}
use mathlib.Core.List.{List, [], ◌∷◌}
use Prim.Native.Nat.{ℕ, ◌≤◌, ◌<◌, max}
use lib.Dec.{eqb, leb, ltb}
use borrow.Author.Tests.{leb-true, ltb-true, not-true}
use borrow.Enum.Refused.{Among, opened}
use types.Run.{OneOf}
use denote.Enum.Declared.{tag_of}
use Rattle.basics.proofs.Tests.{and_left, and_right, and_both}
use Rattle.code.specs.declared.nodes.NodeSet.{NodeSet}
use Rattle.machine.specs.Stripe.{Outcome, Whole, refused, guard}
use Rattle.machine.specs.Rebuild.{picks, phase_of, out_of, own, is_weakened}
use Rattle.entries.specs.declared.Epoch.{Epoch}
use Rattle.records.specs.declared.Sizes.{Sizes}
use Rattle.records.specs.declared.ClientRecord.{ClientRecord}
use Rattle.code.specs.View.{node_set_of}
use Rattle.records.specs.declared.Phase.{Phase}
use Rattle.records.specs.declared.Phase.TheVariants.{NoRebuild, Locking, Picking, Writing, Settling, Unlocking}
use Rattle.records.specs.declared.Refusal.TheVariants.{OutOfPhase}
use Rattle.records.specs.Sizes.{is_node}
use Rattle.records.specs.Node as Records
use Rattle.records.specs.Node.{epoch_limit, set_within}
use Rattle.records.specs.Client.{hand_within, rebuild_within, client_within}
use Rattle.records.specs.View.{rebuild_of, client_of}
use Rattle.records.proofs.Clients.{locking-within}
use Rattle.records.proofs.Limits.{nodes-few}
use Rattle.records.specs.contracts.Phase.{the_type}
use Rattle.stripe.specs.declared.seen.Seen.{Seen}
use Rattle.calls.specs.Answers.{whole}
use Rattle.rebuild.specs.Promises.{Admitted, is_picking}

-- ---- the phase's node

pub record Node (z : Sizes) (j : ℕ) : Type 0 where
  pub least : 1 ≤ j
  pub most : j ≤ z.n
  pub few : z.n ≤ 18

module _ {z : Sizes} {c : ℕ} {s : Seen} {y : ClientRecord} (a : Admitted z c s y) where
  within : rebuild_within z (client_of y).rebuild ≡ true
  unfolding client_within
  within = and_left _ _ (and_right (hand_within z (client_of y).hand (client_of y).finished) _ a.client)

  pub writing : {j : ℕ} {set : NodeSet} {e : Epoch} → y.phase ≡ Writing j set e → Node z j
  writing {j} {set} {e} p =
      let w : (is_node z j && (set_within z.n (node_set_of set) && ltb e.0 epoch_limit)) ≡ true = rw p at within in
      record { least = search (and_left, leb-true); most = search (and_left, and_right, leb-true); few = nodes-few z a.sizes }

  pub locking : {n : ℕ} {expired : NodeSet} → y.phase ≡ Locking n expired → n < z.n
  locking {n} {expired} p =
      let w : (leb 1 n && ltb n z.n) ≡ true = locking-within z n expired ∙ (rw p at within) in
      search (and_right, ltb-true)

  pub settling : {j : ℕ} {e : Epoch} → y.phase ≡ Settling j e → Node z j
  settling {j} {e} p =
      let w : (is_node z j && ltb e.0 epoch_limit) ≡ true = rw p at within in
      record { least = search (and_left, leb-true); most = search (and_left, and_right, leb-true); few = nodes-few z a.sizes }

  pub settling-epoch : {j : ℕ} {e : Epoch} → y.phase ≡ Settling j e → e.0 < epoch_limit
  settling-epoch {j} {e} p =
      let w : (is_node z j && ltb e.0 epoch_limit) ≡ true = rw p at within in
      search (and_right, ltb-true)

-- ---- the test of the phase

-- the phase by the position of the variant among the code's
by-tag : (p : Phase) → phase_of (rebuild_of p) ≡ max 1 (tag_of the_type p)
by-tag NoRebuild = refl
by-tag (Locking x expired) = refl
by-tag (Picking j) = refl
by-tag (Writing j set e) = refl
by-tag (Settling j e) = refl
by-tag (Unlocking j) = refl

-- none of the variants is of the phase
unfoldable pub others : ℕ → List ℕ → Bool
others phase [] = true
others phase (tag ∷ tags) = not (eqb (max 1 tag) phase) && others phase tags

none_of : (phase : ℕ) (tags : List ℕ) (x : ℕ) → OneOf tags x → others phase tags ≡ true → eqb (max 1 x) phase ≡ false
unfolding others
none_of phase [] x k e = absurd k
none_of phase (tag ∷ []) x k e = rw k (not-true _ (and_left (not (eqb (max 1 tag) phase)) true e))
none_of phase (tag ∷ next ∷ tags) x (inl k) e = rw k (not-true _ (and_left (not (eqb (max 1 tag) phase)) _ e))
none_of phase (tag ∷ next ∷ tags) x (inr k) e = none_of phase (next ∷ tags) x k (and_right (not (eqb (max 1 tag) phase)) _ e)

-- a call out of its phase: the rebuild is in one of the other variants
pub out-of-phase : (phase : ℕ) (tags : List ℕ) (y : ClientRecord) {nodes : List Records.Node} {blocks spare : List ℕ} (rest : Outcome Whole)
    → Among tags (tag_of the_type y.phase) → others phase tags ≡ true
    → let w = whole nodes (client_of y) blocks spare in refused OutOfPhase w ≡ guard (out_of phase w) OutOfPhase w rest
unfolding guard
out-of-phase phase tags y rest k e = rw (by-tag y.phase, none_of phase tags (tag_of the_type y.phase) (opened k) e)

-- ---- the phase of pick and weaken

-- what is left of one past 1 and 2
module _ (w : Whole) where
  abbrev pub in_picks : Outcome Whole → Outcome Whole
  in_picks rest = guard (out_of picks w) OutOfPhase w (guard (is_weakened w) OutOfPhase w rest)

  pub picks-out : (rest : Outcome Whole) → is_picking w.client.rebuild ≡ false → refused OutOfPhase w ≡ in_picks rest
  unfolding guard
  picks-out rest e = by (eqb (phase_of w.client.rebuild) picks) (eqb (own w) 0) e
    where
      by : (phase none : Bool) → (phase && none) ≡ false
          → refused OutOfPhase w ≡ cond (not phase) (refused OutOfPhase w) (cond (not none) (refused OutOfPhase w) rest)
      by true true e = cc
      by true false e = refl
      by false none e = refl

  module _ (e : is_picking w.client.rebuild ≡ true) where
    pub picks-in : (rest : Outcome Whole) → rest ≡ in_picks rest
    unfolding guard
    picks-in rest = let both = and_both (eqb (phase_of w.client.rebuild) picks) (eqb (own w) 0) e in rw (both.0, both.1)
