-- The cases of a step of the volume: what holds of each outcome, where the tests lead to it, holds of the step. Assumes nothing.
use mathlib.Core.Bool.{Bool, true, false, not}
use mathlib.Core.List.{List, map}
use mathlib.Core.Path.{◌≡◌}
use Prim.Native.Nat.{ℕ, ◌≤◌, ◌<◌}
use lib.Dec.{ltb}
use lib.ListN.{length}
use borrow.Author.Tests.{ltb-true, ltb-false, not-true, not-false}
use Rattle.basics.specs.Lists.{list_of, some_of}
use Rattle.basics.proofs.Tests.{cond_ind}
use Rattle.machine.specs.Calls.{Call}
use Rattle.machine.specs.Stripe.{Stripe, Accepted, Outcome, answered, refused, guard}
use Rattle.records.specs.declared.Refusal.{Refusal}
use Rattle.records.specs.declared.Refusal.TheVariants.{OutOfLimits, OutOfRange}
use Rattle.records.specs.declared.Sizes.{Sizes}
use Rattle.volume.specs.Volume.{Volume, VolumeCall, is_of_each, on_each, on_one, refused_with, step_in, volume_step}

guard-ind : {S : Type 0} (P : Outcome S → Type 0) (test : Bool) (why : Refusal) (s : S) (rest : Outcome S)
    → (test ≡ true → P (refused why s)) → (test ≡ false → P rest) → P (guard test why s rest)
unfolding guard
guard-ind P test why s rest = cond_ind P test (refused why s) rest

-- a call on every stripe: what it is in each of them, and all of them after it
abbrev pub outcomes : Sizes → Call → Volume → List (Outcome Stripe)
outcomes z call v = list_of (length v.stripes) (step_in z call v)

abbrev pub all_after : Sizes → Call → Volume → Volume
all_after z call v = record { stripes = map (λ o. o.after) (outcomes z call v) }

-- whether one of them refuses it so
abbrev pub some_refuse : ℕ → Sizes → Call → Volume → Bool
some_refuse why z call v = some_of (refused_with why) (outcomes z call v)

module _ (z : Sizes) (v : Volume) (P : Outcome Volume → Type 0) where
  pub each-ind : (call : Call) → P (refused OutOfLimits v)
      → (some_refuse 1 z call v ≡ false → some_refuse 2 z call v ≡ true → P (refused OutOfRange v))
      → (some_refuse 1 z call v ≡ false → some_refuse 2 z call v ≡ false → P (answered Accepted (all_after z call v)))
      → P (on_each z call v)
  each-ind call one two all = guard-ind P _ _ _ _ (λ e. one) (λ e. guard-ind P _ _ _ _ (two e) (all e))

  pub step-ind : (q : VolumeCall) → P (refused OutOfLimits v) → (is_of_each q.call ≡ true → P (on_each z q.call v))
      → (is_of_each q.call ≡ false → length v.stripes ≤ q.stripe → P (refused OutOfRange v))
      → (is_of_each q.call ≡ false → q.stripe < length v.stripes → P (on_one z q.stripe q.call v))
      → P (volume_step z q v)
  unfolding volume_step
  step-ind q one each two only =
      let stripes = length v.stripes in
      guard-ind P _ _ _ _ (λ e. one)
      (λ e. cond_ind P (is_of_each q.call) _ _ each
      (λ single. guard-ind P (not (ltb q.stripe stripes)) _ _ _
      (λ out. two single (ltb-false q.stripe stripes (not-true _ out)))
      (λ inside. only single (ltb-true q.stripe stripes (not-false _ inside)))))
