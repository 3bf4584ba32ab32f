-- What is asked of the volume for a line that was read is what the line stands for, from its bytes to the volume's step. Assumes nothing.
use mathlib.Core.Bool.{Bool, true, ◌&&◌}
use mathlib.Core.List.{List, [], ◌∷◌, ◌++◌}
use mathlib.Core.Path.{◌≡◌, refl, sym, ap, subst, ◌∙◌}
use Prim.Native.Nat.{ℕ, suc, ◌*◌, ◌≤◌, ◌<◌}
use native.Mathlib.Decide.{dec_le, dec_lt}
use native.Mathlib.Omega.{arith}
use lib.Dec.{leb}
use lib.ListN.{drop, length, length-append, length-map, length-take, take}
use lib.Seq.{take-append-le}
use borrow.Author.Tests.{le-leb, ne_eqb}
use Rattle.basics.proofs.Lists.{element-past}
use Rattle.basics.proofs.Tests.{clash}
use Rattle.calls.specs.declared.Call.TheVariants as Calls
use Rattle.calls.specs.declared.StepCall.{StepCall}
use Rattle.calls.specs.declared.StepCall.TheVariants.{Swap, Fail, Due, Tick, At, By}
use Rattle.calls.specs.Calls.{step_of}
use Rattle.code.specs.Code.{data_limit}
use Rattle.code.proofs.Sizes as Sizes
use Rattle.limits.proofs.Limits.{code-sizes}
use Rattle.layout.specs.Layout.{home_of, position_of, stripe_of}
use Rattle.machine.specs.Calls as Machine
use Rattle.machine.specs.Stripe.{guard}
use Rattle.records.specs.declared.Sizes as records
use Rattle.records.specs.Sizes.{sizes_within}
use Rattle.records.specs.View.{client_of, node_of}
use Rattle.tables.specs.declared.Volume.{Volume}
use Rattle.tables.specs.Parts.{volume_within}
use Rattle.tables.proofs.Within.{Small, small}
use Rattle.script.specs.Reading.{kept}
use Rattle.script.proofs.Clipping as Clip
use Rattle.script.proofs.Clipping.{and-false}
use Rattle.volume.specs.Volume as volume
use Rattle.volume.specs.Volume.{no_stripe, on, stripe_at, stripe_limit, volume_step}
use Rattle.volumescript.specs.declared.reader.VolumeLine.{VolumeLine}
use Rattle.volumescript.specs.declared.reader.VolumeLine.TheVariants.{Unreadable, One, Each, ReadBlock, SwapBlock, Show}
use Rattle.volumescript.specs.Asking.{call_in, count_in, is_call, is_read, read_in}
use Rattle.volumescript.specs.Lines.{line_step, volume_line}
use Rattle.volumescript.specs.Reading.{clipped_line, line_told}
use Rattle.volumescript.proofs.Clipping.{Roomy, clip-line}
use Rattle.volumeshelf.specs.Volumes.{call_of, of_stripe, volume_in}
use Rattle.volumeshelf.proofs.Turn.{Lent, stripe-at, stripe-count}

-- bytes that are more than any call takes are refused, whatever they are
module _ (z : records.Sizes) (u : volume.Volume) (one other : List ℕ) (block : z.b < length one) (card : length u.stripes * z.b < length one)
    (block' : z.b < length other) (card' : length u.stripes * z.b < length other) where
  -- the limit of the stripes
  abbrev few : Bool
  few = leb 1 (length u.stripes) && leb (length u.stripes) stripe_limit

  too_long : (s : ℕ) (call : StepCall) → volume_step z (on s (step_of call one)) u ≡ volume_step z (on s (step_of call other)) u
  unfolding volume_step guard
  too_long s (Swap c i) =
      rw (
        ne_eqb (length one) z.b (λ e. omega (arith, e, block)),
        ne_eqb (length other) z.b (λ e. omega (arith, e, block')),
        and-false (sizes_within z),
        and-false few,
      )
  too_long s (Fail j) =
      rw (
        ne_eqb (length one) (length u.stripes * z.b) (λ e. omega (arith, e, card)),
        ne_eqb (length other) (length u.stripes * z.b) (λ e. omega (arith, e, card')),
        and-false (sizes_within z),
        and-false few,
      )
  too_long s (Due j) = refl
  too_long s Tick = refl
  too_long s (At op c j) = refl
  too_long s (By op c) = refl

abbrev vol : Volume → Lent → volume.Volume
vol v t = volume_in v t.nodes t.clients t.blocks t.spare t.differences

-- a volume's tables, where it is within the limits: there is room for what its calls take
roomy : (v : Volume) (t : Lent) (room : ℕ) → volume_within v ≡ true → v.z.b ≤ room → v.stripes * v.z.b ≤ room → Roomy v.z (vol v t) room
roomy v t room within block card =
    record {
      some_data = omega (arith, codes.data_least);
      few_data = codes.data_most;
      few = omega (arith, few.stripes, stripe-count v t);
      block = block;
      card = subst (λ (n : ℕ). n * v.z.b ≤ room) (sym (stripe-count v t)) card;
      small = λ s. by s (dec_lt s v.stripes);
    }
  where
    few : Small v
    few = small v within

    codes : Sizes.Sizes v.z.k v.z.n v.z.b
    codes = code-sizes v.z few.within

    by : (s : ℕ) → Dec (s < v.stripes) → Clip.Small v.z (stripe_at (vol v t) s)
    by s (yes l) = subst (Clip.Small v.z) (sym (stripe-at v t s l)) (record {
      positions = omega (arith, codes.data_most);
      nodes = omega (arith, few.n);
      clients = omega (arith, few.m);
      node_records = omega (arith, few.n, length-map (of_stripe s v.z.n t.nodes) node_of, length-take v.z.n (drop (s * v.z.n) t.nodes));
      client_records = omega (arith, few.m, length-map (of_stripe s v.z.m t.clients) client_of, length-take v.z.m (drop (s * v.z.m) t.clients));
    })
    by s (no l) = subst (Clip.Small v.z) (sym (element-past no_stripe (vol v t).stripes (suc s) (omega (arith, l, stripe-count v t)))) (record {
      positions = omega (arith, codes.data_most);
      nodes = omega (arith, few.n);
      clients = omega (arith, few.m);
      node_records = omega arith;
      client_records = omega arith;
    })

-- the buffer has a byte more than any call takes
module _ (v : Volume) (t : Lent) (value : List ℕ) (within : volume_within v ≡ true) (block : v.z.b < length value)
    (card : v.stripes * v.z.b < length value) where
  abbrev u : volume.Volume
  u = vol v t

  ok : Roomy v.z u (length value)
  ok = roomy v t (length value) within (omega (arith, block)) (omega (arith, card))

  all : length u.stripes * v.z.b < length value
  all = subst (λ (n : ℕ). n * v.z.b < length value) (sym (stripe-count v t)) card

  -- what the call of a line is lent of it: the bytes of `CallsPart`
  abbrev given : ℕ → List ℕ
  given n = take n value

  on-bytes : (s : ℕ) (call : StepCall) (n : ℕ) → volume_step v.z (on s (step_of call (given n))) u ≡ volume_step v.z (on s (step_of call (kept n value))) u
  on-bytes s call n = by (dec_le n (length value))
    where
      by : Dec (n ≤ length value) → volume_step v.z (on s (step_of call (given n))) u ≡ volume_step v.z (on s (step_of call (kept n value))) u
      by (yes h) = ap (λ (bytes : List ℕ). volume_step v.z (on s (step_of call bytes)) u) (sym (take-append-le n value (0 ∷ []) h))
      by (no h) =
          let long : length (given n) ≡ length value = length-take n value ∙ omega (arith, h) in
          let more : length value < length (kept n value) = omega (arith, h, length-take n (value ++ 0 ∷ []), length-append value (0 ∷ [])) in
          too_long v.z u (given n) (kept n value) (omega (arith, long, block)) (omega (arith, long, all)) (omega (arith, more, block))
          (omega (arith, more, all)) s call

  home : (b : ℕ) → home_of v.z.k b ≡ record { stripe = stripe_of v.z.k b; position = position_of v.z.k b }
  home b = rw (le-leb 1 v.z.k ok.some_data, le-leb v.z.k data_limit ok.few_data)

  call-told : (line : VolumeLine) → is_call line ≡ true
      → volume_step v.z (on (call_in line v).stripe (call_of (call_in line v).call (given (count_in line)))) u ≡ line_step v.z (line_told line value) u
  call-told Unreadable e = clash e refl
  call-told (One s (Calls.Read i) n) e = clash e refl
  call-told (One s (Calls.Pick c) n) e = refl
  call-told (One s (Calls.Step call) n) e = on-bytes s call n
  call-told (Each (Calls.Read i) n) e = clash e refl
  call-told (Each (Calls.Pick c) n) e = refl
  call-told (Each (Calls.Step call) n) e = on-bytes 0 call n
  call-told (ReadBlock b) e = clash e refl
  call-told (SwapBlock c b n) e =
      ap (λ h. volume_step v.z (on h.stripe (Machine.Swap c h.position (given n))) u) (home b)
      ∙ on-bytes (stripe_of v.z.k b) (Swap c (position_of v.z.k b)) n
  call-told (Show s) e = clash e refl

  read_told : (line : VolumeLine) → is_read line ≡ true
      → volume_step v.z (on (read_in line v).stripe (Machine.Read (read_in line v).i)) u ≡ line_step v.z (line_told line value) u
  read_told Unreadable e = clash e refl
  read_told (One s (Calls.Read i) n) e = refl
  read_told (One s (Calls.Pick c) n) e = clash e refl
  read_told (One s (Calls.Step call) n) e = clash e refl
  read_told (Each call n) e = clash e refl
  read_told (ReadBlock b) e = ap (λ h. volume_step v.z (on h.stripe (Machine.Read h.position)) u) (home b)
  read_told (SwapBlock c b n) e = clash e refl
  read_told (Show s) e = clash e refl

  -- l are the bytes of the line that was read
  module _ (l : List ℕ) (line : VolumeLine) (tells : line_told line value ≡ clipped_line (length value) (volume_line l)) where
    as_written : line_step v.z (line_told line value) u ≡ line_step v.z (volume_line l) u
    as_written = ap (λ x. line_step v.z x u) tells ∙ clip-line v.z u (length value) ok (volume_line l)

    pub call-asked : is_call line ≡ true
        → volume_step v.z (on (call_in line v).stripe (call_of (call_in line v).call (given (count_in line)))) u ≡ line_step v.z (volume_line l) u
    call-asked e = call-told line e ∙ as_written

    pub read_asked : is_read line ≡ true
        → volume_step v.z (on (read_in line v).stripe (Machine.Read (read_in line v).i)) u ≡ line_step v.z (volume_line l) u
    read_asked e = read_told line e ∙ as_written
