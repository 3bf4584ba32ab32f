-- What is looked at before a stop: every node's record, and the client's in every stripe. Assumes nothing.
--     nodes-in, nodes-out        the records of a table are within the limits, or one is not; and so in the stripes
--     clients-in, clients-out    the same of one client's
--     stop-passes, stop-refused  then the stop of a stripe is not refused with 1, or it is
use mathlib.Core.Bool.{Bool, true, false, ◌&&◌, not}
use mathlib.Core.List.{List, [], ◌∷◌, map}
use mathlib.Core.Path.{◌≡◌, refl, sym, ap, ◌∙◌}
use Prim.Native.Nat.{ℕ, zero, suc, ◌+◌, ◌-◌, ◌*◌, ◌/◌, ◌%◌, ◌≤◌, ◌<◌}
use native.Mathlib.Decide.{dec_lt}
use native.Mathlib.Omega.{arith}
use lib.Dec.{eqb}
use lib.ListN.{length, get_or, drop, length-map, get_or-map}
use lib.Seq.{get_or-take, get_or-drop}
use borrow.Author.Tests.{eq-eqb, eqb-true, leb-true, lt-ltb, ne_eqb, not-true}
use Rattle.basics.specs.Lists.{element_at, every_of}
use Rattle.basics.proofs.Lists.{element-past, every-at}
use Rattle.basics.proofs.Tests.{and_both, and_left, and_right, clash, is_false, not-no}
use Rattle.entries.specs.Entries.{ids_within}
use Rattle.layout.proofs.Homes.{single-home}
use Rattle.machine.specs.Calls.{By, Fail, step}
use Rattle.machine.specs.Failure as Failure
use Rattle.machine.specs.Stripe.{Accepted, Local, Stripe, answered, at_node, client_at, guard, nodes_fit, number, on_whole, whole, Whole}
use Rattle.records.specs.declared.ClientCall.TheVariants.{Stop}
use Rattle.records.specs.declared.ClientRecord.{ClientRecord}
use Rattle.records.specs.declared.NodeRecord.{NodeRecord}
use Rattle.records.specs.declared.Sizes.{Sizes}
use Rattle.records.specs.declared.Refusal.TheVariants.{OutOfLimits, OutOfRange}
use Rattle.records.specs.Client.{client_within, fresh_client, stopped}
use Rattle.records.specs.Node.{Node, expired_for, node_within}
use Rattle.records.specs.Sizes.{is_client, is_node, sizes_within}
use Rattle.records.specs.View.{client_of, node_of}
use Rattle.taking.specs.Table.{clients_in, nodes_in}
use Rattle.std.proofs.lemmas.List.{get_or_default}
use Rattle.step.specs.View.{blank_client}
use Rattle.stripe.specs.View.{blank_record}
use Rattle.volume.specs.Volume.{refused_with}
use Rattle.volumeshelf.specs.Volumes.{of_stripe}
use Rattle.routing.specs.Walks.{is_place_of}
use Rattle.volumeshelf.proofs.Ranges.{fits_in}
use Rattle.volumeshelf.proofs.Turn.{stripe-length}

every_of_lem : {X : Type 0} (p : X → Bool) (l : List X) (d : X) → ((j : ℕ) → j < length l → p (get_or l j d) ≡ true) → every_of p l ≡ true
unfolding every_of
every_of_lem p [] d h = refl
every_of_lem p (x ∷ l) d h = rw (h 0 (omega arith), every_of_lem p l d (λ j b. h (suc j) (omega (arith, b))))

-- element j of stripe r's part, as it is seen
at-stripe : {X Y : Type 0} (f : X → Y) (r each : ℕ) (xs : List X) (d : X) (j : ℕ) → j < each
    → get_or (map f (of_stripe r each xs)) j (f d) ≡ f (get_or xs (r * each + j) d)
at-stripe f r each xs d j l =
    get_or-map f (of_stripe r each xs) j d ∙ ap f (get_or-take each (drop (r * each) xs) j d l ∙ get_or-drop (r * each) xs j d)

-- place i is in stripe i / each
module _ (each stripes i : ℕ) (some : 1 ≤ each) (l : i < stripes * each) where
  pub in-stripe : i / each < stripes
  in-stripe = by (dec_lt (i / each) stripes)
    where
      by : Dec (i / each < stripes) → i / each < stripes
      by (yes h) = h
      by (no h) = absurd (omega (arith, l, single-home.outside each i stripes some (omega (arith, h))))

  pub place_is : i / each * each + i % each ≡ i
  place_is = ap (λ (k : ℕ). i / each * each + k) one ∙ single-home.block each i some
    where
      one : i % each ≡ i % each + 1 - 1
      one = omega arith

  pub place_in : i % each < each
  place_in = omega (arith, (single-home.within each i some).1)

-- ---- the nodes

module _ (z : Sizes) (stripes : ℕ) (nodes : List NodeRecord) (long : length nodes ≡ stripes * z.n) (some : 1 ≤ z.n) where
  abbrev pub outside : ℕ → Bool
  outside i = not (node_within z (node_of (get_or nodes i blank_record)))

  pub nodes-in : ((i : ℕ) → i < stripes * z.n → outside i ≡ false) → (r : ℕ) → r < stripes → nodes_fit z (nodes_in (of_stripe r z.n nodes)) ≡ true
  nodes-in h r l = rw (eq-eqb (length (nodes_in (of_stripe r z.n nodes))) z.n many, every_of_lem (node_within z) (nodes_in (of_stripe r z.n nodes)) (node_of blank_record) at)
    where
      many : length (nodes_in (of_stripe r z.n nodes)) ≡ z.n
      many = length-map (of_stripe r z.n nodes) node_of ∙ stripe-length r z.n stripes nodes l long

      at : (j : ℕ) → j < length (nodes_in (of_stripe r z.n nodes)) → node_within z (get_or (nodes_in (of_stripe r z.n nodes)) j (node_of blank_record)) ≡ true
      at j b =
          ap (node_within z) (at-stripe node_of r z.n nodes blank_record j (omega (arith, b, many)))
          ∙ not-no (node_within z (node_of (get_or nodes (r * z.n + j) blank_record))) (h (r * z.n + j) (omega (arith, b, many, fits_in r z.n stripes l)))

  pub nodes-out : (i : ℕ) → i < stripes * z.n → outside i ≡ true → nodes_fit z (nodes_in (of_stripe (i / z.n) z.n nodes)) ≡ false
  unfolding element_at
  nodes-out i l bad = is_false (nodes_fit z table) (λ fit. clash (seen fit) (not-true (node_within z (node_of (get_or nodes i blank_record))) bad))
    where
      table : List Node
      table = nodes_in (of_stripe (i / z.n) z.n nodes)

      many : length table ≡ z.n
      many = length-map (of_stripe (i / z.n) z.n nodes) node_of ∙ stripe-length (i / z.n) z.n stripes nodes (in-stripe z.n stripes i some l) long

      here : element_at (node_of blank_record) table (suc (i % z.n)) ≡ node_of (get_or nodes i blank_record)
      here =
          at-stripe node_of (i / z.n) z.n nodes blank_record (i % z.n) (place_in z.n stripes i some l)
          ∙ ap (λ k. node_of (get_or nodes k blank_record)) (place_is z.n stripes i some l)

      seen : nodes_fit z table ≡ true → node_within z (node_of (get_or nodes i blank_record)) ≡ true
      seen fit =
          ap (node_within z) (sym here)
          ∙ every-at (node_of blank_record) (node_within z) table (and_right (eqb (length table) z.n) _ fit) (suc (i % z.n)) (omega arith)
          (omega (arith, many, place_in z.n stripes i some l))

-- ---- the client

pub clients-some : (z : Sizes) → sizes_within z ≡ true → 1 ≤ z.m
unfolding sizes_within
clients-some z e = search (and_left, and_right, leb-true)

fresh-within : (z : Sizes) → 1 ≤ z.n → client_within z fresh_client ≡ true
unfolding client_within ids_within
fresh-within z some = rw (lt-ltb 0 (2 * z.n) (omega (arith, some)))

module _ (z : Sizes) (c stripes : ℕ) (clients : List ClientRecord) (long : length clients ≡ stripes * z.m) (some : 1 ≤ z.m) (some-nodes : 1 ≤ z.n) where
  abbrev pub outside-client : ℕ → Bool
  outside-client i = is_place_of z.m c i && not (client_within z (client_of (get_or clients i blank_client)))

  there : (r : ℕ) → r < stripes → (j : ℕ) → j < z.m → client_at (clients_in (of_stripe r z.m clients)) (suc j) ≡ client_of (get_or clients (r * z.m + j) blank_client)
  unfolding element_at
  there r l j b =
      get_or_default (clients_in (of_stripe r z.m clients)) j fresh_client (client_of blank_client)
      (omega (arith, b, length-map (of_stripe r z.m clients) client_of, stripe-length r z.m stripes clients l long))
      ∙ at-stripe client_of r z.m clients blank_client j b

  -- the client's place in stripe r
  is-place : (r j : ℕ) → j < z.m → c ≡ suc j → is_place_of z.m c (r * z.m + j) ≡ true
  is-place r j b e = rw (ne_eqb z.m 0 (λ q. omega (arith, q, some)), eq-eqb ((r * z.m + j) % z.m + 1) c position)
    where
      one : r * z.m + j ≡ r * z.m + (suc j - 1)
      one = omega arith

      position : (r * z.m + j) % z.m + 1 ≡ c
      position = ap (λ k. k % z.m + 1) one ∙ single-home.position z.m r (suc j) (omega arith) (omega (arith, b)) ∙ sym e

  pub clients-in : ((i : ℕ) → i < stripes * z.m → outside-client i ≡ false) → (r : ℕ) → r < stripes
      → client_within z (client_at (clients_in (of_stripe r z.m clients)) c) ≡ true
  unfolding element_at
  clients-in h r l = by c refl
    where
      by : (k : ℕ) → c ≡ k → client_within z (client_at (clients_in (of_stripe r z.m clients)) k) ≡ true
      by zero e = fresh-within z some-nodes
      by (suc j) e = within (dec_lt j z.m)
        where
          within : Dec (j < z.m) → client_within z (client_at (clients_in (of_stripe r z.m clients)) (suc j)) ≡ true
          within (yes b) =
              ap (client_within z) (there r l j b)
              ∙ not-no (client_within z (client_of (get_or clients (r * z.m + j) blank_client)))
              (past (is-place r j b e) (h (r * z.m + j) (omega (arith, b, fits_in r z.m stripes l))))
            where
              past : {p q : Bool} → p ≡ true → (p && q) ≡ false → q ≡ false
              past f g = sym (rw f) ∙ g
          within (no b) =
              ap (client_within z) (element-past fresh_client (clients_in (of_stripe r z.m clients)) (suc j)
              (omega (arith, b, length-map (of_stripe r z.m clients) client_of, stripe-length r z.m stripes clients l long)))
              ∙ fresh-within z some-nodes

  pub clients-out : (i : ℕ) → i < stripes * z.m → outside-client i ≡ true → client_within z (client_at (clients_in (of_stripe (i / z.m) z.m clients)) c) ≡ false
  clients-out i l bad =
      let both = and_both (is_place_of z.m c i) (not (client_within z (client_of (get_or clients i blank_client)))) bad in
      let place = eqb-true (i % z.m + 1) c (and_right (not (eqb z.m 0)) _ both.0) in
      let c_is : c ≡ suc (i % z.m) = omega (arith, place) in
      ap (λ k. client_within z (client_at (clients_in (of_stripe (i / z.m) z.m clients)) k)) c_is
      ∙ ap (client_within z) (there (i / z.m) (in-stripe z.m stripes i some l) (i % z.m) (place_in z.m stripes i some l)
      ∙ ap (λ k. client_of (get_or clients k blank_client)) (place_is z.m stripes i some l))
      ∙ not-true (client_within z (client_of (get_or clients i blank_client))) both.1

-- ---- the stop of a stripe

module _ (z : Sizes) (c : ℕ) (s : Stripe) where
  pub stop-refused : (nodes_fit z s.nodes && client_within z (client_at s.clients c)) ≡ false → refused_with 1 (step z (By Stop c) s) ≡ true
  unfolding step Failure.stop guard
  stop-refused e = by (sizes_within z)
    where
      by : (b : Bool) → refused_with 1 (on_whole c (λ w. guard (not (b && (nodes_fit z w.nodes && client_within z w.client))) OutOfLimits w
          (guard (not (is_client z c)) OutOfRange w (answered Accepted (record { nodes = map (expired_for c) w.nodes; client = stopped w.client; blocks = w.blocks; spare = w.spare })))) s) ≡ true
      by true = rw e
      by false = refl

  pub stop-passes : sizes_within z ≡ true → nodes_fit z s.nodes ≡ true → client_within z (client_at s.clients c) ≡ true → refused_with 1 (step z (By Stop c) s) ≡ false
  unfolding step Failure.stop guard
  stop-passes within nodes client = rw (within, nodes, client) (by (is_client z c) (whole c s) _)
    where
      by : (b : Bool) (w x : Whole) → eqb (number (guard (not b) OutOfRange w (answered Accepted x)).answer) 1 ≡ false
      by true w x = refl
      by false w x = refl

-- ---- the failure of a node of a stripe

pub fail-passes : (z : Sizes) (j : ℕ) (value : List ℕ) (s : Stripe) → sizes_within z ≡ true → length s.blocks ≡ z.n * z.b → length value ≡ z.b
    → refused_with 1 (step z (Fail j value) s) ≡ false
unfolding step Failure.fail guard
fail-passes z j value s within blocks bytes =
    rw (within, eq-eqb (length s.blocks) (z.n * z.b) blocks, eq-eqb (length value) z.b bytes) (by (is_node z j) (at_node j 0 s) _)
  where
    by : (b : Bool) (w x : Local) → eqb (number (guard (not b) OutOfRange w (answered Accepted x)).answer) 1 ≡ false
    by true w x = refl
    by false w x = refl
