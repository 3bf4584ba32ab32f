-- Demand 3 of every list of calls of the entry points of volumeshelf, which may begin with what `fresh` leaves. Assumes nothing.
use mathlib.Core.Path.{◌≡◌, refl, sym, ap, subst, ◌∙◌}
use mathlib.Core.Logic.{◌⊎◌, inl, inr}
use mathlib.Core.Bool.{Bool}
use mathlib.Core.List.{List, [], ◌∷◌, map}
use Prim.Native.Nat.{ℕ, zero, suc, ◌-◌, ◌*◌, ◌≤◌, ◌<◌}
use native.Mathlib.Nat.{mul-le-mul_right, suc-mul}
use native.Mathlib.Omega.{arith}
use lib.ListN.{length, take, drop, replicate, length-drop}
use lib.Seq.{length-take-le}
use Rattle.basics.specs.Lists.{element_at}
use Rattle.basics.proofs.Lists.{get_or-list_of, length-list_of}
use Rattle.blocks.specs.Blocks.{Bytes, part}
use Rattle.calls.specs.declared.Answer.{Answer}
use Rattle.calls.proofs.Numbers.{left_one}
use Rattle.machine.specs.Stripe as Machine
use Rattle.machine.specs.Stripe.{answered, fresh, guard, number}
use Rattle.machine.specs.Guarantee.{Holds, KeepsDone, ReadsPart}
use Rattle.machine.proofs.Tables.{bytes-block}
use Rattle.machine.proofs.Theorem.{demand3, keeps_done, reads_part}
use Rattle.records.specs.declared.Refusal.TheVariants.{OutOfLimits}
use Rattle.records.specs.declared.Sizes.{Sizes}
use Rattle.records.specs.Client.{fresh_client}
use Rattle.records.specs.Node.{fresh_node}
use Rattle.records.specs.View.{client_of, node_of}
use Rattle.taking.specs.Lent.{stripe_in}
use Rattle.taking.specs.Table.{clients_in, nodes_in}
use Rattle.volume.specs.Volume.{Volume, VolumeCall, no_stripe, stripe_limit, volume_step}
use Rattle.volume.proofs.Steps.{answer-one}
use Rattle.volumeshelf.specs.Volumes.{Renewed, of_stripe, volume_in}
use Rattle.tables.specs.declared.Volume as code
use Rattle.runs.specs.Entered.{Tables}
use Rattle.runs.specs.Runs.{Begun}
use Rattle.runs.specs.Volume.{VolumeBegun}
use Rattle.runs.specs.VolumeEntered.{EntersVolume, entered, shown, told, EntersVolumeOne, kept, others, volume_of}
use Rattle.runs.specs.VolumeEntered.{TakenOutEntered, OthersKeptEntered, Demand3VolumeEntered, KeepsDoneVolumeEntered, ReadsPartVolumeEntered}
use Rattle.runs.proofs.Volume.{VolumeStepped, VolumeStepsAll, every-volume-run, others-kept, taken_out, volume-guarded}

abbrev seen : code.Volume → Tables → Volume
seen v t = volume_in v t.nodes t.clients t.blocks t.spare t.differences

-- ---- one call

-- answered 1 with the very tables, whatever sizes it was handed
limits : (z : Sizes) (stripes : ℕ) (q : VolumeCall) (t t' : Tables) (answer : Machine.Answer) → number answer ≡ 1 → t' ≡ t
    → VolumeStepped z q (volume_of z stripes t) answer (volume_of z stripes t')
limits z stripes q t t' answer one same = inr (λ i. answered (answer-one answer one i) (volume_of z stripes (same i)))

-- what is said of a volume is said of an equal one
moved : (q : VolumeCall) (t t' : Tables) (v w : code.Volume) → v ≡ w → (answer : Machine.Answer) (test : Bool) (y : Sizes)
    → answered answer (seen v t') ≡ guard test OutOfLimits (seen v t) (volume_step y q (seen v t))
    → answered answer (seen w t') ≡ guard test OutOfLimits (seen w t) (volume_step y q (seen w t))
moved q t t' v w e answer test y said =
    subst (λ x. answered answer (seen x t') ≡ guard test OutOfLimits (seen x t) (volume_step y q (seen x t))) e said

-- with the list's own sizes and number of stripes it is the machine's, but for the tests of the tables' lengths
enters-volume : (z y : Sizes) (stripes count : ℕ) (t : Tables) (q : VolumeCall) (answer : Machine.Answer) (t' : Tables)
    → ((y ≡ z) × (count ≡ stripes)) ⊎ (number answer ≡ 1) → EntersVolume t y count q answer t'
    → VolumeStepped z q (volume_of z stripes t) answer (volume_of z stripes t')
enters-volume z y stripes count t q answer t' (inl e) (entered request value a after m) =
    volume-guarded z q (volume_of z stripes t) _ (inl e.0)
    (moved q t after request.volume (record { stripes = stripes; z = z }) (λ i. record { stripes = e.1 i; z = e.0 i }) _ _ _ m.said)
enters-volume z y stripes count t q answer t' (inr one) (entered request value a after m) =
    let same = left_one a [] one m.left in
    limits z stripes q t t' answer one (λ i. record {
      nodes = same.0 i;
      clients = same.1.0 i;
      blocks = same.1.1.0 i;
      spare = same.1.1.1.0 i;
      differences = same.1.1.1.1 i;
    })
enters-volume z y stripes count t q answer t' (inl e) (shown request a part m) =
    volume-guarded z q (volume_of z stripes t) _ (inl e.0)
    (moved q t t request.volume (record { stripes = stripes; z = z }) (λ i. record { stripes = e.1 i; z = e.0 i }) _ _ _ (m.said t.differences))
enters-volume z y stripes count t q answer t' (inr one) (shown request a part m) = limits z stripes q t t' answer one refl
enters-volume z y stripes count t q answer t' (inl e) (told request a m eb es) =
    volume-guarded z q (volume_of z stripes t) _ (inl e.0)
    (moved q t t request.volume (record { stripes = stripes; z = z }) (λ i. record { stripes = e.1 i; z = e.0 i }) _ _ _
    (m t.blocks t.spare t.differences eb es))
enters-volume z y stripes count t q answer t' (inr one) (told request a m eb es) = limits z stripes q t t' answer one refl

steps-volume : VolumeStepsAll volume_of EntersVolumeOne
steps-volume z y stripes count t q answer t' permitted (kept x k c a after m) = enters-volume z y stripes count t q answer t' permitted m
steps-volume z y stripes count t q answer t' permitted (others x k c u m) = inr refl

pub taken-out-entered : TakenOutEntered
taken-out-entered = taken_out volume_of EntersVolumeOne steps-volume

pub others-kept-entered : OthersKeptEntered
others-kept-entered = others-kept volume_of EntersVolumeOne steps-volume

pub demand3-volume-entered : Demand3VolumeEntered
demand3-volume-entered = every-volume-run volume_of EntersVolumeOne steps-volume Holds demand3

pub keeps-done-volume-entered : KeepsDoneVolumeEntered
keeps-done-volume-entered = every-volume-run volume_of EntersVolumeOne steps-volume KeepsDone keeps_done

pub reads-part-volume-entered : ReadsPartVolumeEntered
reads-part-volume-entered = every-volume-run volume_of EntersVolumeOne steps-volume ReadsPart reads_part

-- ---- a fresh volume

-- a stripe's part of equal elements, and of bytes
map-take : {X Y : Type 0} (f : X → Y) (n : ℕ) (l : List X) → map f (take n l) ≡ take n (map f l)
map-take f zero l = refl
map-take f (suc n) [] = refl
map-take f (suc n) (x ∷ l) = λ i. f x ∷ map-take f n l i

map-drop : {X Y : Type 0} (f : X → Y) (n : ℕ) (l : List X) → map f (drop n l) ≡ drop n (map f l)
map-drop f zero l = refl
map-drop f (suc n) [] = refl
map-drop f (suc n) (x ∷ l) = map-drop f n l

take-equal : {X : Type 0} (n m : ℕ) (x : X) → n ≤ m → take n (replicate m x) ≡ replicate n x
take-equal zero m x l = refl
take-equal (suc n) zero x l = absurd (omega (arith, l))
take-equal (suc n) (suc m) x l = λ i. x ∷ take-equal n m x (omega (arith, l)) i

drop-equal : {X : Type 0} (n m : ℕ) (x : X) → drop n (replicate m x) ≡ replicate (m - n) x
drop-equal zero m x = let e : m ≡ m - 0 = omega arith in ap (λ (k : ℕ). replicate k x) e
drop-equal (suc n) zero x = let e : 0 ≡ 0 - suc n = omega arith in ap (λ (k : ℕ). replicate k x) e
drop-equal (suc n) (suc m) x = let e : m - n ≡ suc m - suc n = omega arith in drop-equal n m x ∙ ap (λ (k : ℕ). replicate k x) e

part-equal : {X : Type 0} (s each stripes : ℕ) (x : X) → s < stripes → of_stripe s each (replicate (stripes * each) x) ≡ replicate each x
part-equal s each stripes x l =
    ap (take each) (drop-equal (s * each) (stripes * each) x)
    ∙ take-equal each (stripes * each - s * each) x (omega (arith, mul-le-mul_right each l, suc-mul s each))

part-long : (s each stripes : ℕ) (t : List ℕ) → s < stripes → length t ≡ stripes * each → length (of_stripe s each t) ≡ each
part-long s each stripes t l long =
    length-take-le each (drop (s * each) t) (rw (length-drop, long) (omega (arith, mul-le-mul_right each l, suc-mul s each)))

part_bytes : (s each : ℕ) (t : List ℕ) → Bytes t → Bytes (of_stripe s each t)
unfolding part
part_bytes s each t b = subst (λ (k : ℕ). Bytes (take each (drop (k * each) t))) one (bytes-block each (suc s) t b)
  where
    one : suc s - 1 ≡ s
    one = omega arith

-- what `fresh` leaves, with any bytes in the spare and the differences, begins a list
pub fresh-begins : (v : code.Volume) (answer : Answer) (t : Tables) → 1 ≤ v.stripes → v.stripes ≤ stripe_limit → Renewed v answer t.nodes t.clients t.blocks
    → length t.spare ≡ v.stripes * (v.z.n * v.z.b) → length t.differences ≡ v.stripes * (v.z.m * v.z.b) → Bytes t.spare → Bytes t.differences
    → VolumeBegun v.z v.stripes (seen v t)
unfolding element_at
fresh-begins v answer t least most new spare differences spare_bytes differences_bytes =
    record {
      count = length-list_of v.stripes (λ s. seen_at s);
      least = least;
      most = most;
      fresh = λ s l. subst (Begun v.z) (sym (get_or-list_of v.stripes (λ r. seen_at r) s no_stripe l)) (begins s l);
    }
  where
    n : ℕ
    n = v.z.n

    m : ℕ
    m = v.z.m

    b : ℕ
    b = v.z.b

    seen_at : ℕ → Machine.Stripe
    seen_at s = stripe_in (of_stripe s n t.nodes) (of_stripe s m t.clients) (of_stripe s (n * b) t.blocks) (of_stripe s (n * b) t.spare) (of_stripe s (m * b) t.differences)

    nodes-at : (s : ℕ) → s < v.stripes → nodes_in (of_stripe s n t.nodes) ≡ replicate n fresh_node
    nodes-at s l =
        map-take node_of n (drop (s * n) t.nodes) ∙ ap (take n) (map-drop node_of (s * n) t.nodes ∙ ap (drop (s * n)) new.nodes_are)
        ∙ part-equal s n v.stripes fresh_node l

    clients-at : (s : ℕ) → s < v.stripes → clients_in (of_stripe s m t.clients) ≡ replicate m fresh_client
    clients-at s l =
        map-take client_of m (drop (s * m) t.clients) ∙ ap (take m) (map-drop client_of (s * m) t.clients ∙ ap (drop (s * m)) new.clients_are)
        ∙ part-equal s m v.stripes fresh_client l

    begins : (s : ℕ) → s < v.stripes → Begun v.z (seen_at s)
    begins s l = record {
      is_fresh = λ i. record {
        nodes = nodes-at s l i;
        clients = clients-at s l i;
        blocks = (ap (of_stripe s (n * b)) new.blocks_are ∙ part-equal s (n * b) v.stripes 0 l) i;
        spare = of_stripe s (n * b) t.spare;
        differences = of_stripe s (m * b) t.differences;
      };
      spare = part-long s (n * b) v.stripes t.spare l spare;
      differences = part-long s (m * b) v.stripes t.differences l differences;
      spare_bytes = part_bytes s (n * b) t.spare spare_bytes;
      differences_bytes = part_bytes s (m * b) t.differences differences_bytes;
    }
