-- What a read of a volume says, from the read of a stripe's parts. Assumes nothing.
use mathlib.Core.Bool.{Bool, true, false, ◌&&◌, not, and-true}
use mathlib.Core.List.{List}
use mathlib.Core.Path.{◌≡◌, refl, sym, ap, ◌∙◌, subst}
use Prim.Native.Nat.{ℕ, ◌*◌, ◌<◌}
use native.Mathlib.Nat.{mul-le-mul}
use native.Mathlib.Omega.{arith}
use lib.Dec.{eqb, leb, ltb}
use lib.ListN.{length, length-map}
use borrow.Author.Tests.{eq-eqb, eqb-true, le-ltb, leb-false, leb-true, lt-ltb}
use Rattle.std.specs.Prelude.{Err, Ok, Result}
use Rattle.basics.proofs.Tests.{and_left, and_right, clash}
use Rattle.calls.specs.declared.Answer.{Answer}
use Rattle.calls.specs.declared.Answer.TheVariants.{Refused}
use Rattle.calls.specs.Answers.{answer_of, read_as, shown_part}
use Rattle.machine.specs.Calls.{Read, step}
use Rattle.machine.specs.Stripe.{Outcome, Stripe, answered, guard}
use Rattle.parts.specs.Inside.{part_in}
use Rattle.records.specs.declared.ClientRecord.{ClientRecord}
use Rattle.records.specs.declared.NodeRecord.{NodeRecord}
use Rattle.records.specs.declared.Refusal.{Refusal}
use Rattle.records.specs.declared.Refusal.TheVariants.{OutOfLimits, OutOfRange}
use Rattle.records.specs.declared.Sizes.{Sizes}
use Rattle.records.specs.Sizes.{sizes_within}
use Rattle.records.specs.View.{client_of, node_of}
use Rattle.taking.specs.declared.SizedRead as taking
use Rattle.taking.specs.Lent.{on_tables, stripe_in}
use Rattle.taking.specs.Reads.{AnswersLent}
use Rattle.volume.specs.Volume as Machine
use Rattle.volume.specs.Volume.{on, on_one, put_stripe, stripe_at, volume_step}
use Rattle.volume.proofs.Steps.{put-itself}
use Rattle.routing.specs.declared.SizedRead.{SizedRead}
use Rattle.tables.specs.declared.Volume.{Volume}
use Rattle.tables.specs.Parts.{part_of, table_blocks, volume_within}
use Rattle.volumeshelf.specs.Volumes.{AnswersVolume, of_stripe, reading, volume_in}
use Rattle.routing.specs.Walks.{read_fits, read_request_of, read_tested, shown_of}
use Rattle.tables.proofs.Within.{Small, blocks-table, small}
use Rattle.volumeshelf.proofs.Ranges.{part-is}
use Rattle.volumeshelf.proofs.Tested.{passes, refusal_of}
use Rattle.volumeshelf.proofs.Turn.{Lent, stripe-at, stripe-count, stripe-length}

-- ---- the volume's own tests

-- the test of the lengths, as the volume's machine has it
abbrev lengths_fit : SizedRead → ℕ → ℕ → Bool
lengths_fit q nodes clients =
    let v = q.volume in
    let all = v.stripes * (v.z.n * v.z.b) in
    eqb nodes (v.stripes * v.z.n) && (eqb clients (v.stripes * v.z.m) && (eqb q.blocks all && eqb q.spare all))

fits-is : (q : SizedRead) (nodes clients : ℕ) → read_fits q nodes clients ≡ (volume_within q.volume && lengths_fit q nodes clients)
fits-is q nodes clients = by (volume_within q.volume) refl
  where
    by : (t : Bool) → volume_within q.volume ≡ t → read_fits q nodes clients ≡ (t && lengths_fit q nodes clients)
    by true e = rw (e, blocks-table q.volume.z (small q.volume e).n (small q.volume e).b) refl
    by false e = rw e refl

record Fitting (q : SizedRead) (nodes clients : ℕ) : Type 0 where
  within : volume_within q.volume ≡ true
  nodes_len : nodes ≡ q.volume.stripes * q.volume.z.n
  clients_len : clients ≡ q.volume.stripes * q.volume.z.m
  blocks_len : q.blocks ≡ q.volume.stripes * (q.volume.z.n * q.volume.z.b)
  spare_len : q.spare ≡ q.volume.stripes * (q.volume.z.n * q.volume.z.b)

fitting : (q : SizedRead) (nodes clients : ℕ) → (volume_within q.volume && lengths_fit q nodes clients) ≡ true → Fitting q nodes clients
fitting q nodes clients e = search (and_left, and_right, eqb-true)

two_guards : {S : Type 0} (a b : Bool) (why : Refusal) (s : S) (o : Outcome S) → guard (not b) why s (guard (not a) why s o) ≡ guard (not (a && b)) why s o
unfolding guard
two_guards true true why s o = refl
two_guards true false why s o = refl
two_guards false true why s o = refl
two_guards false false why s o = refl

module _ (q : SizedRead) (nodes : List NodeRecord) (clients : List ClientRecord) (blocks spare differences : List ℕ) (eb : q.blocks ≡ length blocks)
    (es : q.spare ≡ length spare) where
  abbrev lent : Lent
  lent = record { nodes = nodes; clients = clients; blocks = blocks; spare = spare; differences = differences }

  abbrev tables : Machine.Volume
  tables = volume_in q.volume nodes clients blocks spare differences

  abbrev in-range : Outcome Machine.Volume
  in-range = guard (not (ltb q.stripe q.volume.stripes)) OutOfRange tables (on_one q.volume.z q.stripe (Read q.i) tables)

  steps-by : volume_step q.volume.z (on q.stripe (Read q.i)) tables ≡ guard (not (volume_within q.volume)) OutOfLimits tables in-range
  unfolding volume_step volume_within
  steps-by = rw (stripe-count q.volume lent, and-true (sizes_within q.volume.z)) refl

  -- 1, then 2, then the stripe's own
  reading-is : reading q.volume q.stripe q.i nodes clients blocks spare differences
      ≡ guard (not (read_fits q (length nodes) (length clients))) OutOfLimits tables in-range
  reading-is =
      let fit = lengths_fit q (length nodes) (length clients) in
      rw (← eb, ← es) (ap (guard (not fit) OutOfLimits tables) steps-by) ∙ two_guards (volume_within q.volume) fit OutOfLimits tables in-range
      ∙ ap (λ t. guard (not t) OutOfLimits tables in-range) (sym (fits-is q (length nodes) (length clients)))

  -- ---- a read of a stripe

  module _ (fits : read_fits q (length nodes) (length clients) ≡ true) (h : q.stripe < q.volume.stripes) where
    abbrev v : Volume
    v = q.volume

    abbrev z : Sizes
    z = q.volume.z

    abbrev s : ℕ
    s = q.stripe

    fit : Fitting q (length nodes) (length clients)
    fit = fitting q (length nodes) (length clients) (sym (fits-is q (length nodes) (length clients)) ∙ fits)

    limits : Small v
    limits = small v fit.within

    each-is : table_blocks z ≡ z.n * z.b
    each-is = blocks-table z limits.n limits.b

    -- its parts are those of the stripe
    nodes-part : part_in (part_of s z.n (length nodes)) nodes ≡ of_stripe s z.n nodes
    nodes-part = part-is s z.n v.stripes nodes h limits.stripes (omega (arith, limits.n)) fit.nodes_len nodes

    clients-part : part_in (part_of s z.m (length clients)) clients ≡ of_stripe s z.m clients
    clients-part = part-is s z.m v.stripes clients h limits.stripes (omega (arith, limits.m)) fit.clients_len clients

    table-part : (table : List ℕ) → length table ≡ v.stripes * (z.n * z.b) → part_in (part_of s (table_blocks z) (length table)) table ≡ of_stripe s (z.n * z.b) table
    table-part table len =
        ap (λ k. part_in (part_of s k (length table)) table) each-is
        ∙ part-is s (z.n * z.b) v.stripes table h limits.stripes (mul-le-mul limits.n limits.b) len table

    blocks_len : length blocks ≡ v.stripes * (z.n * z.b)
    blocks_len = sym eb ∙ fit.blocks_len

    spare_len : length spare ≡ v.stripes * (z.n * z.b)
    spare_len = sym es ∙ fit.spare_len

    -- what shelf was asked
    abbrev asked : taking.SizedRead
    asked = record { z = z; i = q.i; blocks = table_blocks z; spare = table_blocks z }

    module _ (r : Answer) (went : AnswersLent (part_in (part_of s z.n (length nodes)) nodes) (part_in (part_of s z.m (length clients)) clients) asked r) where
      abbrev its : Stripe
      its = stripe_in (of_stripe s z.n nodes) (of_stripe s z.m clients) (of_stripe s (z.n * z.b) blocks) (of_stripe s (z.n * z.b) spare)
          (of_stripe s (z.m * z.b) differences)

      its-is : stripe_at tables s ≡ its
      its-is = stripe-at v lent s h

      own : read_as r z.b q.i its ≡ on_tables z (Read q.i) its
      own =
          subst (λ c. AnswersLent (of_stripe s z.n nodes) c asked r) clients-part
          (subst (λ a. AnswersLent a (part_in (part_of s z.m (length clients)) clients) asked r) nodes-part went)
          (of_stripe s (z.n * z.b) blocks) (of_stripe s (z.n * z.b) spare) (of_stripe s (z.m * z.b) differences)
          (each-is ∙ sym (stripe-length s (z.n * z.b) v.stripes blocks h blocks_len)) (each-is ∙ sym (stripe-length s (z.n * z.b) v.stripes spare h spare_len))

      steps-own : on_tables z (Read q.i) its ≡ step z (Read q.i) its
      unfolding guard
      steps-own = rw (
        eq-eqb _ _ (length-map (of_stripe s z.n nodes) node_of ∙ stripe-length s z.n v.stripes nodes h fit.nodes_len),
        eq-eqb _ _ (length-map (of_stripe s z.m clients) client_of ∙ stripe-length s z.m v.stripes clients h fit.clients_len),
      ) refl

      -- the block that it names
      shown-is : shown_of q r blocks spare ≡ shown_part r z.b q.i (of_stripe s (z.n * z.b) blocks) (of_stripe s (z.n * z.b) spare)
      shown-is = (λ d. shown_part r z.b q.i (table-part blocks blocks_len d) (table-part spare spare_len d))

      stripe-read : answered (answer_of r (shown_of q r blocks spare)) tables ≡ reading q.volume q.stripe q.i nodes clients blocks spare differences
      unfolding guard
      stripe-read =
          ap (λ u. answered (answer_of r u) tables) shown-is
          ∙ ap (answered (answer_of r (shown_part r z.b q.i (of_stripe s (z.n * z.b) blocks) (of_stripe s (z.n * z.b) spare))))
          (sym (ap (λ x. put_stripe s x tables) (sym its-is) ∙ put-itself tables s))
          ∙ ap (λ o. answered o.answer (put_stripe s o.after tables)) (own ∙ steps-own ∙ ap (step z (Read q.i)) (sym its-is))
          ∙ sym (reading-is ∙ rw (fits, lt-ltb s v.stripes h) refl)

-- ---- all of it, by what the tests answer

module _ (nodes : List NodeRecord) (clients : List ClientRecord) (q : SizedRead) where
  abbrev test : Result (Unit {0}) Refusal
  test = read_tested q (length nodes) (length clients)

  pub read-refused : (why : Refusal) → test ≡ Err why → AnswersVolume nodes clients q (Refused why)
  unfolding guard
  read-refused why h blocks spare differences eb es = by (read_fits q (length nodes) (length clients)) (leb q.volume.stripes q.stripe) refl refl
    where
      Said : Refusal → Type 0
      Said w = answered (answer_of (Refused w) (shown_of q (Refused w) blocks spare)) (volume_in q.volume nodes clients blocks spare differences)
          ≡ reading q.volume q.stripe q.i nodes clients blocks spare differences

      said-as : (other : Refusal) → test ≡ Err other → Said other → Said why
      said-as other e said = subst Said (ap refusal_of (sym e ∙ h)) said

      by : (f g : Bool) → read_fits q (length nodes) (length clients) ≡ f → leb q.volume.stripes q.stripe ≡ g → Said why
      by false g e l = said-as OutOfLimits (rw e) (sym (reading-is q nodes clients blocks spare differences eb es ∙ rw e refl))
      by true true e l =
          said-as OutOfRange (rw (e, l))
          (sym (reading-is q nodes clients blocks spare differences eb es ∙ rw (e, le-ltb q.stripe q.volume.stripes (leb-true q.volume.stripes q.stripe l)) refl))
      by true false e l = let ok : test ≡ Ok tt = rw (e, l) in clash refl (ap passes (sym ok ∙ h))

  pub read-said : passes test ≡ true → (r : Answer)
      → AnswersLent (part_in (part_of q.stripe q.volume.z.n (length nodes)) nodes) (part_in (part_of q.stripe q.volume.z.m (length clients)) clients)
      (read_request_of q) r
      → AnswersVolume nodes clients q r
  read-said h r went blocks spare differences eb es = by (read_fits q (length nodes) (length clients)) (leb q.volume.stripes q.stripe) refl refl
    where
      by : (f g : Bool) → read_fits q (length nodes) (length clients) ≡ f → leb q.volume.stripes q.stripe ≡ g
          → answered (answer_of r (shown_of q r blocks spare)) (volume_in q.volume nodes clients blocks spare differences)
          ≡ reading q.volume q.stripe q.i nodes clients blocks spare differences
      by false g e l = let no : test ≡ Err OutOfLimits = rw e in clash h (ap passes no)
      by true true e l = let no : test ≡ Err OutOfRange = rw (e, l) in clash h (ap passes no)
      by true false e l = stripe-read q nodes clients blocks spare differences eb es e (leb-false q.volume.stripes q.stripe l) r went
