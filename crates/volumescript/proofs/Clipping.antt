-- A clipped line is answered and leaves what the line itself does. Assumes nothing.
use mathlib.Core.Path.{◌≡◌, refl, sym, ap, ◌∙◌}
use mathlib.Core.Bool.{Bool, true, false, cond, ◌&&◌, not}
use mathlib.Core.List.{List, map}
use mathlib.Core.Option.{Option, none, some}
use Prim.Native.Nat.{ℕ, ◌*◌, ◌/◌, ◌≤◌, ◌<◌}
use native.Mathlib.Decide.{dec_le, dec_lt}
use native.Mathlib.Nat.{div-le_self, le-div_iff_mul-le, mod-lt}
use native.Mathlib.Omega.{arith}
use lib.Dec.{eqb, leb, ltb}
use lib.ListN.{length}
use borrow.Author.Tests.{eqb-true, lt-leb, le-ltb, ne_eqb}
use Rattle.basics.specs.Lists.{list_of, some_of}
use Rattle.basics.proofs.Tests.{and_right}
use Rattle.code.specs.Code.{data_limit, node_limit}
use Rattle.layout.specs.Layout.{node_for, position_of, stripe_of}
use Rattle.machine.specs.Calls.{Call, Read, Pick, Swap, Fail, Due, Tick, At, By}
use Rattle.machine.specs.Stripe.{Accepted, Outcome, Stripe, answered, guard, refused}
use Rattle.records.specs.declared.Refusal.TheVariants.{OutOfLimits, OutOfRange}
use Rattle.records.specs.declared.Sizes.{Sizes}
use Rattle.records.specs.Sizes.{sizes_within}
use Rattle.script.specs.Reading.{clip, clip_digits, clip_number, clip_value}
use Rattle.script.proofs.Clipping.{Small, and-false, clip-above, clip-below, clip-call, clip-long, clip-value}
use Rattle.volume.specs.Volume.{Volume, given_fits, is_of_each, on, on_each, on_one, put_stripe, read_block, refused_with, step_in, stripe_at, stripe_limit, swap_block, volume_step}
use Rattle.volumescript.specs.Lines.{Line, One, Each, ReadBlock, SwapBlock, Show, line_step, meant_step, meaning}
use Rattle.volumescript.specs.Reading.{clipped_line}
use Rattle.volumescript.proofs.Clips.{same-each}

-- a value that is longer than the room is longer than any that is taken
length-clip : (room m : ℕ) (bytes : List ℕ) → m ≤ room → eqb (length (clip_value room bytes)) m ≡ eqb (length bytes) m
length-clip room m bytes fits = by (dec_le (length bytes) room)
  where
    by : Dec (length bytes ≤ room) → eqb (length (clip_value room bytes)) m ≡ eqb (length bytes) m
    by (yes b) = rw (clip-value room bytes b)
    by (no b) =
        let e : room < length bytes = omega (arith, b) in
        ne_eqb (length (clip_value room bytes)) m (λ q. omega (arith, q, clip-long room bytes e, fits))
        ∙ sym (ne_eqb (length bytes) m (λ q. omega (arith, q, e, fits)))

-- the volume is within the limits, and the room is enough for it
pub record Roomy (z : Sizes) (v : Volume) (room : ℕ) : Type 0 where
  pub some_data : 1 ≤ z.k
  pub few_data : z.k ≤ data_limit
  pub few : length v.stripes ≤ stripe_limit
  pub block : z.b ≤ room
  pub card : length v.stripes * z.b ≤ room
  pub small : (s : ℕ) → Small z (stripe_at v s)

module _ (z : Sizes) (v : Volume) (room : ℕ) (ok : Roomy z v room) where
  abbrev count : ℕ
  count = length v.stripes

  same-given : (call : Call) → given_fits z count (clip room call) ≡ given_fits z count call
  same-given (Read i) = refl
  same-given (Pick c) = refl
  same-given (Swap c i value) = length-clip room z.b value ok.block
  same-given (Fail card value) = length-clip room (count * z.b) value ok.card
  same-given (Due j) = refl
  same-given Tick = refl
  same-given (At op c j) = refl
  same-given (By op c) = refl

  no-card : (card : ℕ) → 255 ≤ card → (leb z.n node_limit && (leb 1 card && leb card z.n)) ≡ false
  no-card card h = rw (lt-leb card z.n (omega (arith, h, (ok.small 0).nodes)), and-false (leb 1 card), and-false (leb z.n node_limit))

  same-node : (s card : ℕ) → node_for z.n s (clip_number card) ≡ node_for z.n s card
  same-node s card = by (dec_le card 255)
    where
      by : Dec (card ≤ 255) → node_for z.n s (clip_number card) ≡ node_for z.n s card
      by (yes b) = ap (node_for z.n s) (clip-below card b)
      by (no b) = let e : 255 < card = omega (arith, b) in rw (clip-above card e, no-card 255 (omega arith), no-card card (omega (arith, e)))

  -- in one stripe
  same_step : (call : Call) → given_fits z count call ≡ true → (s : ℕ) → step_in z (clip room call) v s ≡ step_in z call v s
  same_step (Read i) g s = clip-call z (stripe_at v s) (ok.small s) room ok.block (Read i)
  same_step (Pick c) g s = clip-call z (stripe_at v s) (ok.small s) room ok.block (Pick c)
  same_step (Swap c i value) g s = clip-call z (stripe_at v s) (ok.small s) room ok.block (Swap c i value)
  same_step (Fail card value) g s =
      let fits : length value ≡ count * z.b = eqb-true (length value) (count * z.b) g in
      rw (clip-value room value (omega (arith, fits, ok.card)), same-node s card)
  same_step (Due j) g s = clip-call z (stripe_at v s) (ok.small s) room ok.block (Due j)
  same_step Tick g s = clip-call z (stripe_at v s) (ok.small s) room ok.block Tick
  same_step (At op c j) g s = clip-call z (stripe_at v s) (ok.small s) room ok.block (At op c j)
  same_step (By op c) g s = clip-call z (stripe_at v s) (ok.small s) room ok.block (By op c)

  abbrev together_of : List (Outcome Stripe) → Outcome Volume
  together_of outcomes =
      guard (some_of (refused_with 1) outcomes) OutOfLimits v
      (guard (some_of (refused_with 2) outcomes) OutOfRange v (answered Accepted (record { stripes = map (λ o. o.after) outcomes })))

  same-all : (call : Call) → given_fits z count call ≡ true → on_each z (clip room call) v ≡ on_each z call v
  same-all call g = λ i. together_of (list_of count (λ s. same_step call g s i))

  same-one : (s : ℕ) (call : Call) → given_fits z count call ≡ true
      → guard (not (ltb (clip_digits s) count)) OutOfRange v (on_one z (clip_digits s) (clip room call) v)
      ≡ guard (not (ltb s count)) OutOfRange v (on_one z s call v)
  unfolding guard
  same-one s call g = by (dec_lt s count)
    where
      by : Dec (s < count) → cond (not (ltb (clip_digits s) count)) (refused OutOfRange v) (on_one z (clip_digits s) (clip room call) v)
          ≡ cond (not (ltb s count)) (refused OutOfRange v) (on_one z s call v)
      by (yes l) =
          let same : clip_digits s ≡ s = omega (arith, l, ok.few) in
          rw same (ap (λ (o : Outcome Stripe). cond (not (ltb s count)) (refused OutOfRange v) (answered o.answer (put_stripe s o.after v))) (same_step call g s))
      by (no l) =
          let past : count ≤ clip_digits s = omega (arith, l, ok.few) in
          rw (le-ltb (clip_digits s) count past, le-ltb s count (omega (arith, l)))

  -- the volume's own test
  abbrev within : Call → Bool
  within call = (leb 1 count && leb count stripe_limit) && (sizes_within z && given_fits z count call)

  pub clip-on : (s : ℕ) (call : Call) → volume_step z (on (clip_digits s) (clip room call)) v ≡ volume_step z (on s call) v
  unfolding volume_step guard
  clip-on s call = rw (same-given call, same-each room call) (by (within call) refl)
    where
      rests : (t : Bool) → given_fits z count call ≡ true
          → cond t (on_each z (clip room call) v) (guard (not (ltb (clip_digits s) count)) OutOfRange v (on_one z (clip_digits s) (clip room call) v))
          ≡ cond t (on_each z call v) (guard (not (ltb s count)) OutOfRange v (on_one z s call v))
      rests true g = same-all call g
      rests false g = same-one s call g

      by : (t : Bool) → within call ≡ t
          → guard (not t) OutOfLimits v (cond (is_of_each call) (on_each z (clip room call) v)
          (guard (not (ltb (clip_digits s) count)) OutOfRange v (on_one z (clip_digits s) (clip room call) v)))
          ≡ guard (not t) OutOfLimits v (cond (is_of_each call) (on_each z call v) (guard (not (ltb s count)) OutOfRange v (on_one z s call v)))
      by true e = rests (is_of_each call) (and_right (sizes_within z) _ (and_right (leb 1 count && leb count stripe_limit) _ e))
      by false e = refl

  -- a call on a stripe that there is not is answered by the bytes given alone
  nowhere : (s s' : ℕ) (call call' : Call) → given_fits z count call ≡ given_fits z count call' → is_of_each call ≡ false → is_of_each call' ≡ false
      → count ≤ s → count ≤ s' → volume_step z (on s call) v ≡ volume_step z (on s' call') v
  unfolding volume_step guard
  nowhere s s' call call' same one one' l l' = rw (same, one, one', le-ltb s count l, le-ltb s' count l')

  -- a block past a million has no home in a volume
  far : (b : ℕ) → 1000000 ≤ b → count ≤ stripe_of z.k b
  far b h =
      let past : 1024 ≤ b / z.k = (le-div_iff_mul-le ok.some_data).1 (omega (arith, ok.few_data, h)) in
      omega (arith, past, ok.few)

  far-both : (b : ℕ) → (b ≤ 1000000 → ⊥) → (count ≤ stripe_of z.k (clip_digits b)) × (count ≤ stripe_of z.k b)
  far-both b h = (far (clip_digits b) (omega (arith, h)), far b (omega (arith, h)))

  clip-read : (b : ℕ) → volume_step z (read_block z.k (clip_digits b)) v ≡ volume_step z (read_block z.k b) v
  clip-read b = by (dec_le b 1000000)
    where
      by : Dec (b ≤ 1000000) → volume_step z (read_block z.k (clip_digits b)) v ≡ volume_step z (read_block z.k b) v
      by (yes h) = let same : clip_digits b ≡ b = omega (arith, h) in ap (λ (x : ℕ). volume_step z (read_block z.k x) v) same
      by (no h) =
          let past = far-both b h in
          nowhere (stripe_of z.k (clip_digits b)) (stripe_of z.k b) (Read (position_of z.k (clip_digits b))) (Read (position_of z.k b)) refl refl refl
          past.0 past.1

  clip-swap : (c b : ℕ) (value : List ℕ)
      → volume_step z (swap_block z.k (clip_number c) (clip_digits b) (clip_value room value)) v ≡ volume_step z (swap_block z.k c b value) v
  clip-swap c b value = by (dec_le b 1000000)
    where
      by : Dec (b ≤ 1000000)
          → volume_step z (swap_block z.k (clip_number c) (clip_digits b) (clip_value room value)) v ≡ volume_step z (swap_block z.k c b value) v
      by (yes h) =
          let same : clip_digits b ≡ b = omega (arith, h) in
          let stripe : clip_digits (stripe_of z.k b) ≡ stripe_of z.k b = omega (arith, h, div-le_self b z.k) in
          let position : clip_number (position_of z.k b) ≡ position_of z.k b = omega (arith, mod-lt b ok.some_data, ok.few_data) in
          ap (λ (x : ℕ). volume_step z (swap_block z.k (clip_number c) x (clip_value room value)) v) same
          ∙ (λ i. volume_step z (on (sym stripe i) (Swap (clip_number c) (sym position i) (clip_value room value))) v)
          ∙ clip-on (stripe_of z.k b) (Swap c (position_of z.k b) value)
      by (no h) =
          let past = far-both b h in
          nowhere (stripe_of z.k (clip_digits b)) (stripe_of z.k b) (Swap (clip_number c) (position_of z.k (clip_digits b)) (clip_value room value))
          (Swap c (position_of z.k b) value) (length-clip room z.b value ok.block) refl refl past.0 past.1

  clip-show : (s : ℕ) → meant_step z (meaning z.k (Show (clip_digits s))) v ≡ meant_step z (meaning z.k (Show s)) v
  clip-show s = by (dec_lt s count)
    where
      by : Dec (s < count) → meant_step z (meaning z.k (Show (clip_digits s))) v ≡ meant_step z (meaning z.k (Show s)) v
      by (yes l) =
          let same : clip_digits s ≡ s = omega (arith, l, ok.few) in
          ap (λ (x : ℕ). guard (not (ltb x count)) OutOfRange v (answered Accepted v)) same
      by (no l) =
          let past : count ≤ clip_digits s = omega (arith, l, ok.few) in
          rw (le-ltb (clip_digits s) count past, le-ltb s count (omega (arith, l)))

  pub clip-line : (line : Option Line) → line_step z (clipped_line room line) v ≡ line_step z line v
  clip-line none = refl
  clip-line (some (One s call)) = clip-on s call
  clip-line (some (Each call)) = clip-on 0 call
  clip-line (some (ReadBlock b)) = clip-read b
  clip-line (some (SwapBlock c b value)) = clip-swap c b value
  clip-line (some (Show s)) = clip-show s
