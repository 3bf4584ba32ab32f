-- A small volume: two stripes of k = 2, n = 3, B = 1 and one client, so blocks 0 to 3 and cards 1 to 3. What the definitions give, and what request C-11
-- says, call by call. Assumes nothing.
use Rattle.std.specs.Prelude.{List, [], ◌∷◌, ◌++◌, map, ℕ, replicate}
use Rattle.machine.specs.Calls as Calls
use Rattle.machine.specs.Stripe.{Stripe, Outcome, fresh, number}
use Rattle.records.specs.declared.Sizes.{Sizes}
use Rattle.volume.specs.Volume.{Volume, VolumeCall, fail_card, on, read_block, stop_all, stripe_at, swap_block, volume_step}

abbrev pub sizes : Sizes
sizes = record { k = 2; n = 3; b = 1; failures = 1; m = 1 }

-- any bytes in the spare and the differences
abbrev pub fresh_stripe : Stripe
fresh_stripe = fresh sizes (170 ∷ 170 ∷ 170 ∷ []) (85 ∷ [])

abbrev pub of_stripes : ℕ → Volume
of_stripes stripes = record { stripes = replicate stripes fresh_stripe }

-- the answer's number, and the blocks of stripes 0 and 1
abbrev pub told : Outcome Volume → List ℕ
told o = number o.answer ∷ ((stripe_at o.after 0).blocks ++ (stripe_at o.after 1).blocks)

unfoldable pub told_of : List VolumeCall → Volume → List (List ℕ)
told_of [] v = []
told_of (q ∷ calls) v = let o = volume_step sizes q v in told o ∷ told_of calls o.after

-- block 0 is position 1 of stripe 0, and node 3 its redundant one; blocks 2 and 3 are positions 1 and 2 of stripe 1; card 1 is node 1 of stripe 0 and
-- node 3 of stripe 1. Client 1 can swap again in stripe 1, where its write was in hand, after the stop
abbrev pub calls : List VolumeCall
calls =
    swap_block 2 1 0 (1 ∷ [])
    ∷ on 0 (Calls.add 1 3)
    ∷ swap_block 2 1 3 (1 ∷ [])
    ∷ fail_card 1 (5 ∷ 6 ∷ [])
    ∷ stop_all 1
    ∷ swap_block 2 1 2 (2 ∷ [])
    ∷ []

abbrev pub told_calls : List (List ℕ)
told_calls =
    (0 ∷ 1 ∷ 0 ∷ 0 ∷ 0 ∷ 0 ∷ 0 ∷ [])
    ∷ (0 ∷ 1 ∷ 0 ∷ 142 ∷ 0 ∷ 0 ∷ 0 ∷ [])
    ∷ (0 ∷ 1 ∷ 0 ∷ 142 ∷ 0 ∷ 1 ∷ 0 ∷ [])
    ∷ (0 ∷ 5 ∷ 0 ∷ 142 ∷ 0 ∷ 1 ∷ 6 ∷ [])
    ∷ (0 ∷ 5 ∷ 0 ∷ 142 ∷ 0 ∷ 1 ∷ 6 ∷ [])
    ∷ (0 ∷ 5 ∷ 0 ∷ 142 ∷ 2 ∷ 1 ∷ 6 ∷ [])
    ∷ []

-- refusals by their numbers
abbrev pub number_for : VolumeCall → Volume → ℕ
number_for q v = number (volume_step sizes q v).answer

-- "A block, stripe or card number out of range is answered 2"
abbrev pub out_of_range : List ℕ
out_of_range =
    map (λ q. number_for q (of_stripes 2))
    (read_block 2 4 ∷ swap_block 2 1 4 (1 ∷ []) ∷ on 2 (Calls.lock 1) ∷ fail_card 0 (5 ∷ 6 ∷ []) ∷ fail_card 4 (5 ∷ 6 ∷ []) ∷ stop_all 2 ∷ [])

-- "B bytes given for each" of the stripes; "a stripe count outside 1 to 1,024 with 1"
abbrev pub out_of_limits : List ℕ
out_of_limits =
    number_for (fail_card 1 (5 ∷ [])) (of_stripes 2) ∷ number_for (swap_block 2 1 4 []) (of_stripes 2)
    ∷ number_for (read_block 2 0) (of_stripes 0) ∷ number_for (read_block 2 0) (of_stripes 1025) ∷ []

abbrev pub within_limits : ℕ
within_limits = number_for (read_block 2 2047) (of_stripes 1024)
