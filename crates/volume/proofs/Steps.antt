-- One step of the volume: what it does to each stripe, and what a refusal leaves. Assumes nothing.
use mathlib.Core.Path.{◌≡◌, refl, sym, ap, subst, ◌∙◌}
use mathlib.Core.Logic.{inl, inr}
use mathlib.Core.Bool.{Bool, true, false, cond}
use Prim.Native.Nat.{ℕ, ◌<◌}
use native.Mathlib.Omega.{arith}
use lib.Dec.{eqb}
use lib.ListN.{length, length-map, length-set}
use lib.Seq.{get_or-set_same, get_or-set_other, set-get_or}
use borrow.Author.Tests.{eqb-true, eqb-false}
use Rattle.basics.specs.Lists.{element_at, set_at}
use Rattle.basics.proofs.Lists.{length-list_of}
use Rattle.basics.proofs.Tests.{clash}
use Rattle.machine.specs.Stripe.{Stripe, Answer, Accepted, Shown, Added, Done, Rebuilt, Told, Refused, Outcome, answered, refused, number}
use Rattle.machine.proofs.Refusals.{refusals-same}
use Rattle.records.specs.declared.Refusal.TheVariants.{OutOfLimits}
use Rattle.records.specs.declared.Sizes.{Sizes}
use Rattle.records.proofs.Refusals.{why-one}
use Rattle.volume.specs.Volume.{Volume, VolumeCall, call_in, is_of_each, no_stripe, on_one, put_stripe, reaches, step_in, stripe_at, volume_step}
use Rattle.volume.specs.Guarantee.{OthersUnchanged, StepInEach, SameCount, VolumeRefusedUnchanged}
use Rattle.volume.proofs.Cases.{outcomes, all_after, each-ind, step-ind}
use Rattle.volume.proofs.Each.{InStripe, each_in}

-- ---- one stripe put back

module _ (v : Volume) (s : ℕ) (x : Stripe) where
  pub put_same : s < length v.stripes → stripe_at (put_stripe s x v) s ≡ x
  unfolding element_at set_at
  put_same l = get_or-set_same v.stripes s x no_stripe l

  pub put_other : (t : ℕ) → (t ≡ s → ⊥) → stripe_at (put_stripe s x v) t ≡ stripe_at v t
  unfolding element_at set_at
  put_other t apart = get_or-set_other v.stripes s t x no_stripe apart

  pub put-length : length (put_stripe s x v).stripes ≡ length v.stripes
  unfolding set_at
  put-length = length-set v.stripes s x

pub put-itself : (v : Volume) (s : ℕ) → put_stripe s (stripe_at v s) v ≡ v
unfolding element_at set_at
put-itself v s = ap (λ l. record { stripes = l }) (set-get_or v.stripes s no_stripe)

-- a call on one stripe reaches that one alone
single : (s : ℕ) (q : VolumeCall) {t : Bool} → is_of_each q.call ≡ false → reaches s q ≡ t → eqb s q.stripe ≡ t
single s q one r = ap (λ b. cond b true (eqb s q.stripe)) (sym one) ∙ r

-- ---- each stripe

pub step-in-each : StepInEach
step-in-each z q v s l r =
    step-ind z v (InStripe z q.call v s) q (inl refl) (each_in z q.call v s l)
    (λ one out. absurd (omega (arith, named one)))
    (λ one inside.
    subst (λ t. InStripe z q.call v t (on_one z q.stripe q.call v)) (sym (named one))
    (inr (ap (answered _) (put_same v q.stripe _ inside))))
  where
    named : is_of_each q.call ≡ false → s ≡ q.stripe
    named one = eqb-true s q.stripe (single s q one r)

pub others-unchanged : OthersUnchanged
others-unchanged z q v s r =
    step-ind z v (λ o. stripe_at o.after s ≡ stripe_at v s) q refl
    (λ each. clash (ap (λ b. cond b true (eqb s q.stripe)) each) r)
    (λ one out. refl)
    (λ one inside. put_other v q.stripe _ s (eqb-false s q.stripe (single s q one r)))

pub same_count : SameCount
same_count z q v =
    step-ind z v Same q refl (λ each. each-ind z v Same q.call refl (λ one two. refl) (λ one two. all)) (λ one out. refl)
    (λ one inside. put-length v q.stripe _)
  where
    Same : Outcome Volume → Type 0
    Same o = length o.after.stripes ≡ length v.stripes

    all : length (all_after z q.call v).stripes ≡ length v.stripes
    all = length-map (outcomes z q.call v) (λ o. o.after) ∙ length-list_of (length v.stripes) (step_in z q.call v)

-- ---- refusals

pub volume-refusals-same : VolumeRefusedUnchanged
volume-refusals-same z q v why is same =
    step-ind z v Left q (λ is. refl) (λ each. each-ind z v Left q.call (λ is. refl) (λ one two is. refl) (λ one two is. absurd (no_way is)))
    (λ one out is. refl)
    (λ one inside is.
    ap (λ x. put_stripe q.stripe x v) (refusals-same z (call_in z q.stripe q.call) (stripe_at v q.stripe) why is same) ∙ put-itself v q.stripe)
    is
  where
    Left : Outcome Volume → Type 0
    Left o = o.answer ≡ Refused why → o.after ≡ v

    no_way : Accepted ≡ Refused why → ⊥
    no_way e = let z : ◌≡◌ {A = ℕ} 0 1 = cc in omega arith

-- one answer has the number 1
pub answer-one : (a : Answer) → number a ≡ 1 → a ≡ Refused OutOfLimits
answer-one Accepted e = absurd (omega arith)
answer-one (Shown source block) e = absurd (omega arith)
answer-one Added e = absurd (omega arith)
answer-one Done e = absurd (omega arith)
answer-one Rebuilt e = absurd (omega arith)
answer-one (Told finding) e = absurd (omega arith)
answer-one (Refused why) e = ap Refused (why-one why e)

pub volume-limits-same : (z : Sizes) (q : VolumeCall) (v : Volume) → number (volume_step z q v).answer ≡ 1 → volume_step z q v ≡ refused OutOfLimits v
volume-limits-same z q v one =
    let is = answer-one (volume_step z q v).answer one in
    λ i. answered (is i) (volume-refusals-same z q v OutOfLimits is refl i)
