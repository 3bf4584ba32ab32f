-- Change request C-11: what a step of the volume does to one stripe, and what a refusal leaves. Quotes are C-11's. Assumes nothing.
use Rattle.std.specs.Prelude.{true, false, ◌⊎◌, ◌≡◌, ℕ, ◌<◌, length}
use Rattle.machine.specs.Calls.{step}
use Rattle.machine.specs.Stripe.{Refused, answered, refused}
use Rattle.records.specs.declared.Refusal.{Refusal}
use Rattle.records.specs.declared.Refusal.TheVariants.{OutOfLimits}
use Rattle.records.specs.declared.Sizes.{Sizes}
use Rattle.records.specs.Refusals.{changes}
use Rattle.volume.specs.Volume.{Volume, VolumeCall, call_in, reaches, stripe_at, volume_step}

-- "calls on other stripes change none of its blocks": nor anything else of it
abbrev pub OthersUnchanged : Type 0
OthersUnchanged =
    (z : Sizes) (q : VolumeCall) (v : Volume) (s : ℕ) → reaches s q ≡ false → stripe_at (volume_step z q v).after s ≡ stripe_at v s

-- "Other calls .. each act on one stripe", "a client's stop is a stop in each", "A card's failure is a failure of one node in each stripe": a call
-- that reaches a stripe is the stripe's step there and has its answer, or it is refused with 1 and leaves the volume as it was
abbrev pub StepInEach : Type 0
StepInEach =
    (z : Sizes) (q : VolumeCall) (v : Volume) (s : ℕ) → s < length v.stripes → reaches s q ≡ true →
    (volume_step z q v ≡ refused OutOfLimits v)
    ⊎ (answered (volume_step z q v).answer (stripe_at (volume_step z q v).after s) ≡ step z (call_in z s q.call) (stripe_at v s))

-- no call changes the number of stripes
abbrev pub SameCount : Type 0
SameCount = (z : Sizes) (q : VolumeCall) (v : Volume) → length (volume_step z q v).after.stripes ≡ length v.stripes

-- a refusal but 9 and 10 leaves the volume as it was
abbrev pub VolumeRefusedUnchanged : Type 0
VolumeRefusedUnchanged =
    (z : Sizes) (q : VolumeCall) (v : Volume) (why : Refusal) → (volume_step z q v).answer ≡ Refused why → changes why ≡ false → (volume_step z q v).after ≡ v
