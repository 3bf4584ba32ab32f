-- The calls of one stripe, taken out of a volume's list of calls, are a list of the stripe's machine; so what holds of every such list holds of every
-- stripe of a volume. Assumes nothing.
use mathlib.Core.Path.{◌≡◌, refl, sym, ap, subst, ◌∙◌}
use mathlib.Core.Logic.{◌⊎◌, inl, inr}
use mathlib.Core.Bool.{Bool, true, false, cond}
use mathlib.Core.List.{List, [], ◌∷◌}
use Prim.Native.Nat.{ℕ, suc, ◌<◌}
use lib.ListN.{length, get_or-map}
use Rattle.basics.specs.Lists.{element_at}
use Rattle.blocks.specs.Blocks.{Bytes}
use Rattle.machine.specs.Calls.{Call, Read, Pick, Swap, Fail, Due, Tick, At, By, step}
use Rattle.machine.specs.Guarantee.{EveryList, Holds, KeepsDone, ReadsPart, value_of}
use Rattle.machine.specs.Guarantee as Machine
use Rattle.machine.specs.History.{Event}
use Rattle.machine.specs.Stripe.{Stripe, Answer, Outcome, answered, refused, guard, number}
use Rattle.machine.proofs.Tables.{bytes-block}
use Rattle.machine.proofs.Theorem.{demand3, keeps_done, reads_part}
use Rattle.records.specs.declared.Refusal.TheVariants.{OutOfLimits}
use Rattle.records.specs.declared.Sizes.{Sizes}
use Rattle.runs.specs.Runs.{Run}
use Rattle.runs.specs.Runs as Runs
use Rattle.runs.specs.Volume.{VolumeEvent, blocks_of, event_in, past_of, VolumeRun, begun, called, MachineMakes, TakenOut, OthersKept, EveryVolumeRun}
use Rattle.runs.specs.Volume.{VolumeMakes, Demand3Volume, KeepsDoneVolume, ReadsPartVolume}
use Rattle.runs.proofs.Runs.{Stepped, refused-one, StepsAll, every-run}
use Rattle.volume.specs.Volume.{Volume, VolumeCall, call_in, no_stripe, reaches, stripe_at, volume_step}
use Rattle.volume.proofs.Steps.{others-unchanged, same_count, step-in-each, volume-limits-same}

-- ---- one call of the code

-- the machine's step with the list's sizes, or answered 1
abbrev pub VolumeStepped : Sizes → VolumeCall → Volume → Answer → Volume → Type 0
VolumeStepped z q v answer v' = (answered answer v' ≡ volume_step z q v) ⊎ (answered answer v' ≡ refused OutOfLimits v)

module _ (z : Sizes) (q : VolumeCall) (v : Volume) {answer : Answer} {v' : Volume} where
  -- a test of the code's own, before the machine's
  pub volume-guarded : (test : Bool) {y : Sizes} → (y ≡ z) ⊎ (number answer ≡ 1) → answered answer v' ≡ guard test OutOfLimits v (volume_step y q v)
      → VolumeStepped z q v answer v'
  unfolding guard
  volume-guarded true p e = inr e
  volume-guarded false (inl same) e = inl (e ∙ ap (λ y. volume_step y q v) same)
  volume-guarded false {y} (inr one) e = inr (e ∙ volume-limits-same y q v (ap (λ o. number o.answer) (sym e) ∙ one))

  -- it does nothing to the number of stripes, nor to a stripe that it does not reach
  stepped-count : VolumeStepped z q v answer v' → length v'.stripes ≡ length v.stripes
  stepped-count (inl e) = ap (λ o. length o.after.stripes) e ∙ same_count z q v
  stepped-count (inr e) = ap (λ o. length o.after.stripes) e

  stepped-others : VolumeStepped z q v answer v' → (s : ℕ) → reaches s q ≡ false → stripe_at v' s ≡ stripe_at v s
  stepped-others (inl e) s r = ap (λ o. stripe_at o.after s) e ∙ others-unchanged z q v s r
  stepped-others (inr e) s r = ap (λ o. stripe_at o.after s) e

  -- in one that it reaches it is the stripe's step
  stepped-in : VolumeStepped z q v answer v' → (s : ℕ) → s < length v.stripes → reaches s q ≡ true
      → Stepped z (call_in z s q.call) (stripe_at v s) answer (stripe_at v' s)
  stepped-in x s l r = by x (step-in-each z q v s l r)
    where
      here : Outcome Volume → Outcome Stripe
      here o = answered o.answer (stripe_at o.after s)

      limits : answered answer v' ≡ refused OutOfLimits v → Stepped z (call_in z s q.call) (stripe_at v s) answer (stripe_at v' s)
      limits e = refused-one z (call_in z s q.call) (stripe_at v s) (ap here e)

      by : VolumeStepped z q v answer v' → (volume_step z q v ≡ refused OutOfLimits v) ⊎ (here (volume_step z q v) ≡ step z (call_in z s q.call) (stripe_at v s))
          → Stepped z (call_in z s q.call) (stripe_at v s) answer (stripe_at v' s)
      by (inr e) each = limits e
      by (inl e) (inl one) = limits (e ∙ one)
      by (inl e) (inr is) = record { sizes = z; is = ap here e ∙ is; permitted = inl refl }

-- the bytes that a call is given in a stripe are of those that it is given
bytes-in : (z : Sizes) (s : ℕ) (call : Call) → Bytes (value_of call) → Bytes (value_of (call_in z s call))
bytes-in z s (Read i) b = b
bytes-in z s (Pick c) b = b
bytes-in z s (Swap c i value) b = b
bytes-in z s (Fail card value) b = bytes-block z.b (suc s) value b
bytes-in z s (Due j) b = b
bytes-in z s Tick b = b
bytes-in z s (At op c j) b = b
bytes-in z s (By op c) b = b

-- ---- the list

blocks-in : (v : Volume) (s : ℕ) → element_at [] (blocks_of v) (suc s) ≡ (stripe_at v s).blocks
unfolding element_at
blocks-in v s = get_or-map (λ x. x.blocks) v.stripes s no_stripe

-- a list of a stripe's calls
abbrev Listed : Sizes → Stripe → List Event → Type 0
Listed z x past = Run (λ z x. x) MachineMakes z x past

-- one more call of the volume is one more of the stripe, or none
one_more : (z : Sizes) (q : VolumeCall) (v : Volume) (answer : Answer) (v' : Volume) (s : ℕ) (past : List VolumeEvent) → VolumeStepped z q v answer v'
    → Bytes (value_of q.call) → s < length v.stripes → Listed z (stripe_at v s) (past_of z s past)
    → Listed z (stripe_at v' s) (past_of z s (record { call = q; answer = answer; blocks = blocks_of v' } ∷ past))
unfolding past_of
one_more z q v answer v' s past went bytes l earlier = go (reaches s q) refl
  where
    now : VolumeEvent
    now = record { call = q; answer = answer; blocks = blocks_of v' }

    go : (t : Bool) → reaches s q ≡ t → Listed z (stripe_at v' s) (cond t (event_in z s now ∷ past_of z s past) (past_of z s past))
    go true r =
        let x = stepped-in z q v went s l r in
        subst (λ blocks. Listed z (stripe_at v' s) (record { call = call_in z s q.call; answer = answer; blocks = blocks } ∷ past_of z s past))
        (sym (blocks-in v' s)) (Runs.called earlier (record { sizes = x.permitted; bytes = bytes-in z s q.call bytes }) x.is)
    go false r = subst (λ x. Listed z x (past_of z s past)) (sym (stepped-others z q v went s r)) earlier

module _ {S : Type 0} (seen : Sizes → ℕ → S → Volume) (Makes : S → Sizes → ℕ → VolumeCall → Answer → S → Type 0) where
  abbrev pub VolumeStepsAll : Type 0
  VolumeStepsAll =
      (z y : Sizes) (stripes count : ℕ) (v : S) (q : VolumeCall) (answer : Answer) (v' : S) → ((y ≡ z) × (count ≡ stripes)) ⊎ (number answer ≡ 1)
      → Makes v y count q answer v' → VolumeStepped z q (seen z stripes v) answer (seen z stripes v')

  module _ (steps : VolumeStepsAll) where
    counted : (z : Sizes) (stripes : ℕ) (v : S) (past : List VolumeEvent) → VolumeRun seen Makes z stripes v past → length (seen z stripes v).stripes ≡ stripes
    counted z stripes v past (begun b) = b.count
    counted z stripes v past (called {v = w} {past = before} {y = y} {count = count} {q = q} {answer = answer} R p m) =
        stepped-count z q (seen z stripes w) (steps z y stripes count w q answer v p.sizes m) ∙ counted z stripes w before R

    pub taken_out : TakenOut seen Makes
    unfolding past_of
    taken_out z stripes v past (begun b) s l = Runs.begun (b.fresh s l)
    taken_out z stripes v past (called {v = w} {past = before} {y = y} {count = count} {q = q} {answer = answer} R p m) s l =
        one_more z q (seen z stripes w) answer (seen z stripes v) s before (steps z y stripes count w q answer v p.sizes m) p.bytes
        (subst (λ n. s < n) (sym (counted z stripes w before R)) l) (taken_out z stripes w before R s l)

    pub others-kept : OthersKept seen Makes
    others-kept z stripes v past R y count q answer v' p m s r =
        stepped-others z q (seen z stripes v) (steps z y stripes count v q answer v' p.sizes m) s r

    pub every-volume-run : (P : Sizes → Machine.Run → Type 0) → EveryList P → EveryVolumeRun seen Makes P
    every-volume-run P every z within stripes v past R s l =
        every-run (λ z x. x) MachineMakes P every machine-steps z within (stripe_at (seen z stripes v) s) (past_of z s past) (taken_out z stripes v past R s l)
      where
        machine-steps : StepsAll (λ z x. x) MachineMakes
        machine-steps z y x call answer x' permitted is = record { sizes = y; is = is; permitted = permitted }

-- ---- the machine's own lists

volume-steps : VolumeStepsAll (λ z stripes v. v) VolumeMakes
volume-steps z y stripes count v q answer v' permitted is = volume-guarded z q v _ (only permitted) is
  where
    only : ((y ≡ z) × (count ≡ stripes)) ⊎ (number answer ≡ 1) → (y ≡ z) ⊎ (number answer ≡ 1)
    only (inl e) = inl e.0
    only (inr one) = inr one

pub taken-out-volume : TakenOut (λ z stripes v. v) VolumeMakes
taken-out-volume = taken_out (λ z stripes v. v) VolumeMakes volume-steps

pub demand3-volume : Demand3Volume
demand3-volume = every-volume-run (λ z stripes v. v) VolumeMakes volume-steps Holds demand3

pub keeps-done-volume : KeepsDoneVolume
keeps-done-volume = every-volume-run (λ z stripes v. v) VolumeMakes volume-steps KeepsDone keeps_done

pub reads-part-volume : ReadsPartVolume
reads-part-volume = every-volume-run (λ z stripes v. v) VolumeMakes volume-steps ReadsPart reads_part
