-- The guarantee of a volume is not empty. The calls of volume/specs/Examples are a list of the machine's (`run`), and these are the calls of each stripe,
-- taken out of it (`taken`). Assumes nothing.
use mathlib.Core.Path.{◌≡◌, refl, sym, ◌∙◌}
use mathlib.Core.Bool.{true}
use mathlib.Core.List.{List, [], ◌∷◌}
use mathlib.Core.Logic.{inl}
use Prim.Native.Nat.{ℕ, zero, suc, ◌<◌}
use native.Mathlib.Omega.{arith}
use lib.ListN.{length}
use borrow.Author.Tests.{eq-eqb}
use Rattle.basics.specs.Lists as Lists
use Rattle.basics.specs.Lists.{every_of}
use Rattle.basics.proofs.Tests.{and_both}
use Rattle.blocks.specs.Blocks as Blocks
use Rattle.code.specs.Code as Code
use Rattle.code.specs.Decode as Decode
use Rattle.entries.specs.Entries as Entries
use Rattle.gf256.specs.Field as Field
use Rattle.machine.specs.Calls.{Call, add, fail, step, stop, swap}
use Rattle.machine.specs.Failure as Failure
use Rattle.machine.specs.Guarantee.{value_of}
use Rattle.machine.specs.History.{Event}
use Rattle.machine.specs.Stripe.{Answer, Accepted, Done, Outcome, guard}
use Rattle.machine.specs.Writing as Writing
use Rattle.records.specs.Client as Client
use Rattle.records.specs.Node as Node
use Rattle.records.specs.Sizes as Sizes
use Rattle.runs.specs.Runs.{Begun}
use Rattle.runs.specs.Volume.{VolumeEvent, blocks_of, past_of, VolumeRun, begun, called, VolumeMakes}
use Rattle.runs.proofs.Witness.{is_bytes, bytes-are}
use Rattle.volume.specs.Examples.{calls, fresh_stripe, of_stripes, sizes}
use Rattle.volume.specs.Volume.{Volume, VolumeCall, stripe_at, volume_step}
use Rattle.volume.proofs.Steps.{same_count}

-- ---- the machine's calls, one after the other

unfoldable pub after : List VolumeCall → Volume → Volume
after [] v = v
after (q ∷ calls) v = after calls (volume_step sizes q v).after

abbrev event_of : VolumeCall → Outcome Volume → VolumeEvent
event_of q o = record { call = q; answer = o.answer; blocks = blocks_of o.after }

unfoldable pub events : List VolumeCall → Volume → List VolumeEvent → List VolumeEvent
events [] v past = past
events (q ∷ calls) v past = let o = volume_step sizes q v in events calls o.after (event_of q o ∷ past)

abbrev Runs : Volume → List VolumeEvent → Type 0
Runs v past = VolumeRun (λ z stripes v. v) VolumeMakes sizes 2 v past

-- the number of stripes that it is handed is the volume's
is-step : (q : VolumeCall) (v : Volume) → length v.stripes ≡ 2
    → VolumeMakes v sizes 2 q (volume_step sizes q v).answer (volume_step sizes q v).after
unfolding guard
is-step q v two = rw (eq-eqb 2 (length v.stripes) (sym two))

runs : (calls : List VolumeCall) (v : Volume) (past : List VolumeEvent) → every_of (λ q. is_bytes (value_of q.call)) calls ≡ true
    → length v.stripes ≡ 2 → Runs v past → Runs (after calls v) (events calls v past)
unfolding after events every_of
runs [] v past bytes two R = R
runs (q ∷ calls) v past bytes two R =
    let both = and_both (is_bytes (value_of q.call)) _ bytes in
    runs calls (volume_step sizes q v).after _ both.1 (same_count sizes q v ∙ two)
    (called R (record { sizes = inl (refl, refl); bytes = bytes-are (value_of q.call) both.0 }) (is-step q v two))

-- ---- those of the example

first-begun : Begun sizes fresh_stripe
unfolding every_of
first-begun = record { is_fresh = refl; spare = refl; differences = refl; spare_bytes = bytes-are _ refl; differences_bytes = bytes-are _ refl }

fresh_at : (s : ℕ) → s < 2 → Begun sizes (stripe_at (of_stripes 2) s)
unfolding Lists.element_at
fresh_at zero l = first-begun
fresh_at (suc zero) l = first-begun
fresh_at (suc (suc s)) l = absurd (omega arith)

abbrev pub past : List VolumeEvent
past = events calls (of_stripes 2) []

pub run : VolumeRun (λ z stripes v. v) VolumeMakes sizes 2 (after calls (of_stripes 2)) past
unfolding every_of
run = runs calls (of_stripes 2) [] refl refl (begun (record { count = refl; least = omega arith; most = omega arith; fresh = fresh_at }))

-- ---- the calls of each stripe

abbrev event : Call → Answer → List ℕ → Event
event call answer blocks = record { call = call; answer = answer; blocks = blocks }

abbrev pub of_first : List Event
of_first =
    event (stop 1) Accepted (5 ∷ 0 ∷ 142 ∷ [])
    ∷ event (fail 1 (5 ∷ [])) Accepted (5 ∷ 0 ∷ 142 ∷ [])
    ∷ event (add 1 3) Done (1 ∷ 0 ∷ 142 ∷ [])
    ∷ event (swap 1 1 (1 ∷ [])) Accepted (1 ∷ 0 ∷ 0 ∷ [])
    ∷ []

abbrev pub of_second : List Event
of_second =
    event (swap 1 1 (2 ∷ [])) Accepted (2 ∷ 1 ∷ 6 ∷ [])
    ∷ event (stop 1) Accepted (0 ∷ 1 ∷ 6 ∷ [])
    ∷ event (fail 3 (6 ∷ [])) Accepted (0 ∷ 1 ∷ 6 ∷ [])
    ∷ event (swap 1 2 (1 ∷ [])) Accepted (0 ∷ 1 ∷ 0 ∷ [])
    ∷ []

pub taken : (past_of sizes 0 past ≡ of_first) × (past_of sizes 1 past ≡ of_second)
unfolding events past_of volume_step step guard Field.double Field.times_bits Field.product Field.squares Field.inverse Blocks.part Blocks.set_part Blocks.zip Code.code_sizes Code.coefficient Sizes.sizes_within Entries.same_id Entries.is_in Entries.is_listed Entries.is_recent_in Entries.is_old_in Entries.last_recent_after Entries.aged Entries.id_within Entries.entries_within Entries.ids_within Node.set_within Node.node_within Client.client_within Lists.list_of Lists.element_at Lists.set_at Lists.every_of Lists.some_of Writing.swap_tests Writing.swap Writing.write_tests Writing.add_tests Writing.add Failure.stop Failure.fail Decode.set_of Decode.has Decode.each
taken = (refl, refl)
