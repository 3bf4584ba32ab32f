-- Change request C-11: a volume of many stripes, its calls, and its step. Quotes are C-11's. Assumes nothing.
use Rattle.std.specs.Prelude.{Bool, true, false, cond, ◌&&◌, not, List, [], map, ℕ, suc, ◌*◌, eqb, leb, ltb, length}
use Rattle.basics.specs.Lists.{element_at, list_of, set_at, some_of}
use Rattle.blocks.specs.Blocks.{block}
use Rattle.layout.specs.Layout.{node_for, position_of, stripe_of}
use Rattle.machine.specs.Calls.{Call, Read, Pick, Swap, Fail, Due, Tick, At, By, step}
use Rattle.machine.specs.Calls as Calls
use Rattle.machine.specs.Stripe.{Stripe, Accepted, Outcome, answered, guard, number}
pub use Rattle.records.specs.Calls.{is_stop}
use Rattle.records.specs.declared.Refusal.TheVariants.{OutOfLimits, OutOfRange}
use Rattle.records.specs.declared.Sizes.{Sizes}
use Rattle.records.specs.Sizes.{sizes_within}

-- "over up to 1,024 stripes of equal sizes and t_d"; "a stripe count outside 1 to 1,024"
abbrev pub stripe_limit : ℕ
stripe_limit = 1024

pub record Volume : Type 0 where
  pub stripes : List Stripe

-- stripe s, from 0; where there is none, an empty one
abbrev pub no_stripe : Stripe
no_stripe = record { nodes = []; clients = []; blocks = []; spare = []; differences = [] }

abbrev pub stripe_at : Volume → ℕ → Stripe
stripe_at v s = element_at no_stripe v.stripes (suc s)

abbrev pub put_stripe : ℕ → Stripe → Volume → Volume
put_stripe s stripe v = record { stripes = set_at v.stripes (suc s) stripe }

-- A call of a stripe, with the stripe's number. "A client's stop is a stop in each", "A card's failure is a failure of one node in each stripe": these
-- two are of every stripe, whatever the number; the number in a failure is that of a card. "Other calls .. each act on one stripe"
pub record VolumeCall : Type 0 where
  pub stripe : ℕ
  pub call : Call

abbrev pub is_of_each : Call → Bool
is_of_each (Read i) = false
is_of_each (Pick c) = false
is_of_each (Swap c i value) = false
is_of_each (Fail card value) = true
is_of_each (Due j) = false
is_of_each Tick = false
is_of_each (At op c j) = false
is_of_each (By op c) = is_stop op

-- the volume's calls by name: a call of stripe s; of block b, a read and a swap; a stop; a card's failure
abbrev pub on : ℕ → Call → VolumeCall
on s call = record { stripe = s; call = call }

abbrev pub read_block : ℕ → ℕ → VolumeCall
read_block k b = on (stripe_of k b) (Calls.read (position_of k b))

abbrev pub swap_block : ℕ → ℕ → ℕ → List ℕ → VolumeCall
swap_block k c b value = on (stripe_of k b) (Calls.swap c (position_of k b) value)

abbrev pub stop_all : ℕ → VolumeCall
stop_all c = on 0 (Calls.stop c)

abbrev pub fail_card : ℕ → List ℕ → VolumeCall
fail_card card value = on 0 (Calls.fail card value)

-- what a call is in stripe s. "a failure of one node in each stripe, with B bytes given for each, in stripe order": node by the card, and the B bytes
-- at the stripe's place
abbrev pub call_in : Sizes → ℕ → Call → Call
call_in z s (Read i) = Read i
call_in z s (Pick c) = Pick c
call_in z s (Swap c i value) = Swap c i value
call_in z s (Fail card value) = Fail (node_for z.n s card) (block z.b (suc s) value)
call_in z s (Due j) = Due j
call_in z s Tick = Tick
call_in z s (At op c j) = At op c j
call_in z s (By op c) = By op c

-- whether a call reaches stripe s
abbrev pub reaches : ℕ → VolumeCall → Bool
reaches s q = cond (is_of_each q.call) true (eqb s q.stripe)

-- the bytes that a call is given: B of a swap, B for each stripe of a card's failure
abbrev pub given_fits : Sizes → ℕ → Call → Bool
given_fits z stripes (Read i) = true
given_fits z stripes (Pick c) = true
given_fits z stripes (Swap c i value) = eqb (length value) z.b
given_fits z stripes (Fail card value) = eqb (length value) (stripes * z.b)
given_fits z stripes (Due j) = true
given_fits z stripes Tick = true
given_fits z stripes (At op c j) = true
given_fits z stripes (By op c) = true

-- the step of stripe s
abbrev pub step_in : Sizes → Call → Volume → ℕ → Outcome Stripe
step_in z call v s = step z (call_in z s call) (stripe_at v s)

-- a call on one stripe has that stripe's answer
abbrev pub on_one : Sizes → ℕ → Call → Volume → Outcome Volume
on_one z s call v = let o = step_in z call v s in answered o.answer (put_stripe s o.after v)

-- a call on every stripe is accepted if each of them accepts it. "The lowest applicable number wins": it is refused with 1 if one of them refuses it
-- so, or else with 2, and then changes none
abbrev pub refused_with : ℕ → Outcome Stripe → Bool
refused_with why o = eqb (number o.answer) why

abbrev pub on_each : Sizes → Call → Volume → Outcome Volume
on_each z call v =
    let outcomes = list_of (length v.stripes) (step_in z call v) in
    guard (some_of (refused_with 1) outcomes) OutOfLimits v
    (guard (some_of (refused_with 2) outcomes) OutOfRange v
    (answered Accepted (record { stripes = map (λ o. o.after) outcomes })))

-- "A block, stripe or card number out of range is answered 2, a stripe count outside 1 to 1,024 with 1": 1 for the count, the sizes and the bytes given,
-- then 2 for the stripe, then the stripe's own tests. A block out of range is in a stripe out of range; a card out of range is node 0 of every stripe
unfoldable pub volume_step : Sizes → VolumeCall → Volume → Outcome Volume
volume_step z q v =
    let stripes = length v.stripes in
    guard (not ((leb 1 stripes && leb stripes stripe_limit) && (sizes_within z && given_fits z stripes q.call))) OutOfLimits v
    (cond (is_of_each q.call) (on_each z q.call v)
    (guard (not (ltb q.stripe stripes)) OutOfRange v (on_one z q.stripe q.call v)))
