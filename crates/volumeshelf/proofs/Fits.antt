-- The volume's own tests, in the code and in the machine. Assumes nothing.
use mathlib.Core.Bool.{Bool, true, false, cond, ◌&&◌, not}
use mathlib.Core.List.{List}
use mathlib.Core.Path.{◌≡◌, refl, sym, ◌∙◌}
use Prim.Native.Nat.{ℕ, ◌*◌}
use lib.Dec.{eqb, leb, ltb}
use lib.ListN.{length}
use borrow.Author.Tests.{eqb-true, le-leb}
use Rattle.basics.proofs.Tests.{and_both, clash}
use Rattle.calls.specs.declared.StepCall.TheVariants.{Swap, Fail, Due, Tick, At, By}
use Rattle.machine.specs.Stripe.{Outcome, guard, refused}
use Rattle.records.specs.declared.Refusal.TheVariants.{OutOfLimits, OutOfRange}
use Rattle.records.specs.declared.Sizes.{Sizes}
use Rattle.records.specs.Sizes.{sizes_within}
use Rattle.volume.specs.Volume as Machine
use Rattle.volume.specs.Volume.{given_fits, is_of_each, on, on_each, on_one, stripe_limit, volume_step}
use Rattle.routing.specs.declared.Request.{Request}
use Rattle.routing.specs.declared.VolumeCall.{VolumeCall}
use Rattle.routing.specs.declared.VolumeCall.TheVariants.{Pick, Step}
use Rattle.tables.specs.Parts.{volume_within}
use Rattle.volumeshelf.specs.Volumes.{call_of, calling, tables_fit, volume_in}
use Rattle.routing.specs.Walks.{value_fits, walk_fits}
use Rattle.tables.proofs.Within.{Small, blocks-table, differences-table, small}
use Rattle.volumeshelf.proofs.Turn.{Fit, Lent, stripe-count}

-- the bytes that a call is given
given_is : (call : VolumeCall) (z : Sizes) (stripes : ℕ) (value : List ℕ)
    → value_fits call z.b (stripes * z.b) (length value) ≡ given_fits z stripes (call_of call value)
given_is (Pick c) z stripes value = refl
given_is (Step (Swap c i)) z stripes value = refl
given_is (Step (Fail j)) z stripes value = refl
given_is (Step (Due j)) z stripes value = refl
given_is (Step Tick) z stripes value = refl
given_is (Step (At op c j)) z stripes value = refl
given_is (Step (By op c)) z stripes value = refl

assoc : (a b c d e g : Bool) → (a && (b && (c && (d && (e && g))))) ≡ ((a && (b && (c && (d && e)))) && g)
assoc false b c d e g = refl
assoc true false c d e g = refl
assoc true true false d e g = refl
assoc true true true false e g = refl
assoc true true true true false g = refl
assoc true true true true true g = refl

module _ (q : Request) (value : List ℕ) (t : Lent) where
  abbrev fits : Bool
  fits = walk_fits q (length t.nodes) (length t.clients) (length t.blocks) (length t.spare) (length t.differences) (length value)

  abbrev vol : Machine.Volume
  vol = volume_in q.volume t.nodes t.clients t.blocks t.spare t.differences

  abbrev tables : Bool
  tables = tables_fit q.volume t.nodes t.clients t.blocks t.spare t.differences

  abbrev given : Bool
  given = given_fits q.volume.z q.volume.stripes (call_of q.call value)

  count : length vol.stripes ≡ q.volume.stripes
  count = stripe-count q.volume t

  -- in a volume within the limits the code's tests are the machine's
  walk-fits : volume_within q.volume ≡ true → fits ≡ (tables && given)
  walk-fits within =
      let s = small q.volume within in
      let z = q.volume.z in
      let stripes = q.volume.stripes in
      rw (within, blocks-table z s.n s.b, differences-table z s.m s.b, given_is q.call z q.volume.stripes value)
      (assoc (eqb (length t.nodes) (stripes * z.n)) (eqb (length t.clients) (stripes * z.m)) (eqb (length t.blocks) (stripes * (z.n * z.b)))
      (eqb (length t.spare) (stripes * (z.n * z.b))) (eqb (length t.differences) (stripes * (z.m * z.b))) given)

  pub record Fits : Type 0 where
    pub small_is : Small q.volume
    pub fit : Fit q.volume t
    pub given_fits : given ≡ true
    pub tables_fit : tables ≡ true

  pub fits-true : fits ≡ true → Fits
  fits-true e =
      let v = q.volume in
      let within = (and_both (volume_within v) _ e).0 in
      let both = and_both tables given (sym (walk-fits within) ∙ e) in
      let n = and_both (eqb (length t.nodes) (v.stripes * v.z.n)) _ both.0 in
      let c = and_both (eqb (length t.clients) (v.stripes * v.z.m)) _ n.1 in
      let b = and_both (eqb (length t.blocks) (v.stripes * (v.z.n * v.z.b))) _ c.1 in
      let s = and_both (eqb (length t.spare) (v.stripes * (v.z.n * v.z.b))) _ b.1 in
      record {
        small_is = small v within;
        fit = record {
          nodes = eqb-true (length t.nodes) _ n.0;
          clients = eqb-true (length t.clients) _ c.0;
          blocks = eqb-true (length t.blocks) _ b.0;
          spare = eqb-true (length t.spare) _ s.0;
          differences = eqb-true (length t.differences) _ s.1;
        };
        given_fits = both.1;
        tables_fit = both.0;
      }

  twice : (test : Bool) (o : Outcome Machine.Volume) → o ≡ refused OutOfLimits vol → guard test OutOfLimits vol o ≡ refused OutOfLimits vol
  unfolding guard
  twice true o e = refl
  twice false o e = e

  -- the machine's own test of the count, the sizes and the bytes
  abbrev own : Bool
  own =
      (leb 1 (length vol.stripes) && leb (length vol.stripes) stripe_limit)
      && (sizes_within q.volume.z && given_fits q.volume.z (length vol.stripes) (call_of q.call value))

  own_is : own ≡ (volume_within q.volume && given)
  unfolding volume_within
  own_is = rw count (nested (leb 1 q.volume.stripes && leb q.volume.stripes stripe_limit) (sizes_within q.volume.z) given)
    where
      nested : (a b c : Bool) → (a && (b && c)) ≡ ((a && b) && c)
      nested true b c = refl
      nested false b c = refl

  refused-own : (volume_within q.volume && given) ≡ false → volume_step q.volume.z (on q.stripe (call_of q.call value)) vol ≡ refused OutOfLimits vol
  unfolding volume_step guard
  refused-own e = rw (own_is, e)

  pub fits-false : fits ≡ false → calling q value t.nodes t.clients t.blocks t.spare t.differences ≡ refused OutOfLimits vol
  unfolding guard
  fits-false e = by (volume_within q.volume) refl
    where
      inner : (b c : Bool) → tables ≡ b → given ≡ c → volume_within q.volume ≡ true → calling q value t.nodes t.clients t.blocks t.spare t.differences ≡ refused OutOfLimits vol
      inner false c tb g within = rw tb
      inner true false tb g within = twice (not tables) _ (refused-own (rw (within, g)))
      inner true true tb g within = clash (walk-fits within ∙ rw (tb, g)) e

      by : (b : Bool) → volume_within q.volume ≡ b → calling q value t.nodes t.clients t.blocks t.spare t.differences ≡ refused OutOfLimits vol
      by false within = twice (not tables) _ (refused-own (rw within))
      by true within = inner tables given refl refl within

  -- past the tests the call goes to each stripe or to its own
  pub fits-past : Fits → calling q value t.nodes t.clients t.blocks t.spare t.differences
      ≡ cond (is_of_each (call_of q.call value)) (on_each q.volume.z (call_of q.call value) vol)
      (guard (not (ltb q.stripe q.volume.stripes)) OutOfRange vol (on_one q.volume.z q.stripe (call_of q.call value) vol))
  unfolding volume_step guard volume_within
  fits-past F = rw (F.tables_fit, own_is, within, F.given_fits, count)
    where
      within : volume_within q.volume ≡ true
      within = rw (le-leb 1 q.volume.stripes F.small_is.some, le-leb q.volume.stripes stripe_limit F.small_is.stripes, F.small_is.within)
