-- A weaken in its phase, by the outcomes of its tests. Assumes nothing.
use mathlib.Core.Path.{◌≡◌, refl, ap, ◌∙◌}
use mathlib.Core.Bool.{true, false}
use mathlib.Core.List.{List, [], ◌∷◌, ◌++◌, map}
use Prim.Native.Nat.{ℕ, zero, suc, ◌+◌}
use lib.ListN.{take, drop}
use Rattle.records.specs.declared.Sizes.{Sizes}
use Rattle.records.specs.declared.Refusal.TheVariants.{OutOfPhase}
use Rattle.records.specs.Node.{Node, is_recons, held_by, weakened_by}
use Rattle.records.specs.Client.{Picking}
use Rattle.machine.specs.Stripe.{Accepted, Outcome, answered, refused, guard, Whole}
use Rattle.basics.specs.Lists.{every_of, some_of}
use Rattle.machine.specs.Rebuild.{advanced, holding, some_recons, weakened}
use Rattle.basics.proofs.Tests.{and_both, or-none}
use Rattle.stripe.specs.Seen.{weakened_for}
use Rattle.rebuild.specs.Promises.{is_picking, not_held}
use Rattle.rebuild.proofs.Phases.{in_picks, picks-in}

-- ---- where all nodes are held and none is RECONS, each one is weakened

module _ (c : ℕ) where
  each-weakened : (l : List Node) → every_of (held_by c) l ≡ true → some_recons l ≡ false → map (weakened_for c) l ≡ map (weakened_by c) l
  unfolding every_of some_of
  each-weakened [] h n = refl
  each-weakened (x ∷ l) h n =
      let held = and_both (held_by c x) (every_of (held_by c) l) h in
      let none = or-none (is_recons x.opmode) (some_recons l) n in
      rw (none.0, held.0, each-weakened l held.1 none.1)

  pub weakens : (k : ℕ) (l : List Node) → every_of (held_by c) l ≡ true → some_recons l ≡ false
      → take k l ++ map (weakened_for c) (drop k l) ≡ take k l ++ map (weakened_by c) (drop k l)
  unfolding every_of some_of
  weakens zero l h n = each-weakened l h n
  weakens (suc k) [] h n = refl
  weakens (suc k) (x ∷ l) h n =
      ap (λ m. x ∷ m)
      (weakens k l (and_both (held_by c x) (every_of (held_by c) l) h).1 (or-none (is_recons x.opmode) (some_recons l) n).1)

-- ---- a weaken in its phase

module _ (w : Whole) (p : is_picking w.client.rebuild ≡ true) (z : Sizes) (c : ℕ) where
  -- what is left of a weaken
  abbrev weaken-left : Outcome Whole
  weaken-left =
      guard (some_recons w.nodes) OutOfPhase w
      (holding (every_of (held_by c) w.nodes) c w (answered Accepted (advanced (weakened z c w.nodes) (Picking (z.k + 1)) w)))

  pub weaken-recons : some_recons w.nodes ≡ true → refused OutOfPhase w ≡ in_picks w weaken-left
  unfolding guard
  weaken-recons some = let e : refused OutOfPhase w ≡ weaken-left = rw some in e ∙ picks-in w p weaken-left

  module _ (none : some_recons w.nodes ≡ false) where
    pub weaken-lost : every_of (held_by c) w.nodes ≡ false → not_held z c w ≡ in_picks w weaken-left
    unfolding guard holding
    weaken-lost held = let e : not_held z c w ≡ weaken-left = rw (none, held) in e ∙ picks-in w p weaken-left

    pub weaken-held : every_of (held_by c) w.nodes ≡ true
        → answered Accepted (advanced (weakened z c w.nodes) (Picking (z.k + 1)) w) ≡ in_picks w weaken-left
    unfolding guard holding
    weaken-held held =
        let e : answered Accepted (advanced (weakened z c w.nodes) (Picking (z.k + 1)) w) ≡ weaken-left = rw (none, held) in
        e ∙ picks-in w p weaken-left
