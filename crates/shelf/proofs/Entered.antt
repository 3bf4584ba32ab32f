-- What an entry point says, from what its callees say. What is primed is as the call leaves it. Assumes nothing.
--     refused-step, refused-read, refused-pick, refused-image      tables of other lengths are answered 1
--     stepped, read-on, picked, imaged      the call by value, on the tables
use Rattle.std.proofs.Common.{Bool, true, false, ◌&&◌, List, [], ◌≡◌, ℕ, ◌≤◌, length, take, eqb, refl, sym, ap, ◌∙◌, subst}
use lib.ListN.{length-map}
use borrow.Author.Tests.{eq-eqb, eqb-true}
use Rattle.basics.proofs.Tests.{and_left, and_right}
use Rattle.basics.specs.Lists.{element_at, set_at}
use Rattle.calls.specs.declared.Answer.{Answer}
use Rattle.calls.specs.declared.Answer.TheVariants.{Refused}
use Rattle.calls.specs.Answers.{Meets, read_as}
use Rattle.calls.specs.Calls.{caller, looks_at_all, step_of, target}
use Rattle.calls.proofs.Left.{left-map}
use Rattle.image.specs.Image.{records_fit, writable}
use Rattle.imaging.specs.Imaging.{written}
use Rattle.limits.proofs.Limits.{clients-few}
use Rattle.machine.specs.Calls.{Call, Pick, Read, step}
use Rattle.machine.specs.Reading.{read}
use Rattle.machine.specs.Rebuild as Rebuild
use Rattle.machine.specs.Stripe.{Stripe, answered, guard, put_whole, refused}
use Rattle.machine.proofs.View.{refused-on}
use Rattle.picking.specs.declared.Picked.{Picked}
use Rattle.picking.specs.Picking.{Picks, seen_whole}
use Rattle.reading.specs.Reading.{Handed}
use Rattle.rebuild.specs.declared.Stepped.{Stepped}
use Rattle.records.specs.declared.ClientRecord.{ClientRecord}
use Rattle.records.specs.declared.NodeRecord.{NodeRecord}
use Rattle.records.specs.declared.Refusal.TheVariants.{OutOfLimits}
use Rattle.records.specs.declared.Sizes.{Sizes}
use Rattle.records.specs.Client.{fresh_client, has_picked}
use Rattle.records.specs.Node.{failed_node, holder_of}
use Rattle.records.specs.Sizes.{sizes_within}
use Rattle.records.specs.View.{client_of, node_of}
use Rattle.records.proofs.Limits.{nodes-few}
use Rattle.step.specs.Steps.{StepsAs}
use Rattle.step.specs.View.{blank_client, stripe_of}
use Rattle.stripe.specs.declared.seen.Seen.{Seen}
use Rattle.stripe.specs.Seen.{Sees, applied, keep}
use Rattle.stripe.specs.View.{blank_record, nodes_of}
use Rattle.taking.specs.declared.PickRequest.{PickRequest}
use Rattle.taking.specs.declared.Request.{Request}
use Rattle.taking.specs.declared.SizedRead.{SizedRead}
use Rattle.taking.specs.Lent.{on_tables, stripe_in}
use Rattle.taking.specs.Reads.{AnswersLent}
use Rattle.taking.specs.Table.{clients_in, nodes_in}
use Rattle.shelf.specs.Shelf.{ImagesLent, PicksOnly, StepsLent}
use Rattle.step.proofs.Items.{map-element, map-put}
use Rattle.shelf.proofs.Lists.{gathered, put-back}

-- the tables as they are lent
module _ (ns : List NodeRecord) (cs : List ClientRecord) where
  abbrev pub fit : Sizes → Bool
  fit z = eqb (length ns) z.n && eqb (length cs) z.m

  module _ (z : Sizes) (call : Call) (b s d : List ℕ) where
    abbrev S : Stripe
    S = stripe_in ns cs b s d

    lengths : (eqb (length S.nodes) z.n && eqb (length S.clients) z.m) ≡ fit z
    lengths = rw (length-map ns node_of, length-map cs client_of) refl

    refuses : fit z ≡ false → refused OutOfLimits S ≡ on_tables z call S
    unfolding guard
    refuses e = rw (lengths, e) refl

    goes : fit z ≡ true → step z call S ≡ on_tables z call S
    unfolding guard
    goes e = rw (lengths, e) refl

  module _ (x0 : ClientRecord) (c : ℕ) {x : ClientRecord} (fresh : client_of x0 ≡ fresh_client) (x-is : x ≡ element_at x0 cs c) where
    client-is : client_of x ≡ element_at fresh_client (clients_in cs) c
    client-is = ap client_of x-is ∙ map-element client_of cs c x0 ∙ ap (λ e. element_at e (clients_in cs) c) fresh

  module _ (y0 : NodeRecord) (j : ℕ) {y : NodeRecord} (failed : node_of y0 ≡ failed_node) (y-is : y ≡ element_at y0 ns j) where
    node-is : node_of y ≡ element_at failed_node (nodes_in ns) j
    node-is = ap node_of y-is ∙ map-element node_of ns j y0 ∙ ap (λ e. element_at e (nodes_in ns) j) failed

  -- ---- every call but read and pick

  module _ (q : Request) (b s d v : List ℕ) where
    pub refused-step : fit q.z ≡ false → StepsLent ns cs b s d v q (Refused OutOfLimits) ns cs b s d
    refused-step e = record { said = refuses q.z (step_of q.call v) b s d e; left = (refl, (refl, (refl, (refl, refl)))) }

    pub stepped : (x0 : ClientRecord) (y0 : NodeRecord) {c j : ℕ} {x : ClientRecord} {y : NodeRecord} {seen : Seen} {r : Stepped} {ms ns' : List NodeRecord} {cs' : List ClientRecord} {b' d' : List ℕ}
        → fit q.z ≡ true → c ≡ caller q.call → client_of x0 ≡ fresh_client → x ≡ element_at x0 cs c → j ≡ target q.z q.call (client_of x)
        → node_of y0 ≡ failed_node → y ≡ element_at y0 ns j → (looks_at_all q.call ≡ true → length ns ≡ q.z.n → Sees q.z c (nodes_in ns) seen)
        → StepsAs q.z q.call seen y x v b s d r b' d'
        → ms ≡ set_at ns j r.node → nodes_in ns' ≡ applied r.change (nodes_in ms) → (r.change ≡ keep → ns' ≡ ms) → cs' ≡ set_at cs c r.client
        → StepsLent ns cs b s d v q r.answer ns' cs' b' s d'
    stepped x0 y0 {x = x} {y = y} {seen = seen} {r = r} {ns' = ns'} {cs' = cs'} fits c-is fresh x-is j-is failed y-is sees one ms-is changed kept cs-is =
        let x-at : x ≡ element_at x0 cs (caller q.call) = rw c-is at x-is in
        let y-at : y ≡ element_at y0 ns (target q.z q.call (client_of x)) = rw j-is at y-is in
        let told : looks_at_all q.call ≡ true → length ns ≡ q.z.n → Sees q.z (caller q.call) (nodes_in ns) seen = rw c-is at sees in
        let nodes : nodes_in ns' ≡ applied r.change (set_at (nodes_in ns) (target q.z q.call (client_of x)) (node_of r.node)) =
        changed ∙ ap (λ l. applied r.change (nodes_in l)) (ms-is ∙ ap (λ k. set_at ns k r.node) j-is)
        ∙ ap (applied r.change) (map-put node_of ns (target q.z q.call (client_of x)) r.node) in
        let clients : clients_in cs' ≡ set_at (clients_in cs) (caller q.call) (client_of r.client) =
        ap clients_in (cs-is ∙ ap (λ k. set_at cs k r.client) c-is) ∙ map-put client_of cs (caller q.call) r.client in
        let n : length ns ≡ q.z.n = eqb-true _ _ (and_left _ _ fits) in
        let m = one (nodes_in ns) (clients_in cs) (record { client_is = client-is x0 _ fresh x-at; node_is = node-is y0 _ failed y-at; seen_is = λ all _. told all n }) in
        record {
          said = rw (nodes, clients) (m.said ∙ goes q.z (step_of q.call v) b s d fits);
          left = left-map r.answer (λ e. (
            kept e.1.1.0 ∙ ms-is ∙ put-back ns _ y0 y-is e.0,
            (cs-is ∙ put-back cs _ x0 x-is e.1.0, (e.1.1.1.0, (refl, e.1.1.1.1))),
          )) m.left;
        }

  -- ---- a read

  module _ (q : SizedRead) where
    pub refused-read : fit q.z ≡ false → AnswersLent ns cs q (Refused OutOfLimits)
    refused-read e b s d eb es = refuses q.z (Read q.i) b s d e

    pub read-on : (x0 : ClientRecord) (y0 : NodeRecord) (a : Answer) {c : ℕ} {x : ClientRecord} {y : NodeRecord} {seen : Seen}
        → fit q.z ≡ true → node_of y0 ≡ failed_node → y ≡ element_at y0 ns q.i → c ≡ holder_of (node_of y) → client_of x0 ≡ fresh_client → x ≡ element_at x0 cs c
        → (has_picked (client_of x).rebuild ≡ true → length ns ≡ q.z.n → Sees q.z c (nodes_in ns) seen)
        → ((s : Stripe) → Handed q.z q.i s seen y x q.blocks q.spare → read_as a q.z.b q.i s ≡ read q.z q.i s)
        → AnswersLent ns cs q a
    unfolding step guard
    read-on x0 y0 a {seen = seen} fits failed y-is c-is fresh x-is sees one b s d eb es =
        let n : length ns ≡ q.z.n = eqb-true _ _ (and_left _ _ fits) in
        one (stripe_in ns cs b s d) (record {
          node_is = node-is y0 q.i failed y-is;
          client_is = client-is x0 _ fresh x-is ∙ ap (element_at fresh_client (clients_in cs)) c-is;
          seen_is = λ picked within. subst (λ k. Sees q.z k (nodes_in ns) seen) c-is (sees picked n);
          blocks_are = eb;
          spare_is = es;
        })
        ∙ goes q.z (Read q.i) b s d fits

  -- ---- a pick

  module _ (q : PickRequest) (b s d v : List ℕ) where
    pub refused-pick : (fit q.z ≡ true → q.z.n ≤ 18 → ⊥) → PicksOnly ns cs b s d v q (Refused OutOfLimits) ns cs b s d
    unfolding step Rebuild.pick guard
    refused-pick misfit = (refl, (refl, λ e. record { said = by e (fit q.z) (sizes_within q.z) refl refl; left = (refl, refl) }))
      where
        by : (e : List ℕ) (u w : Bool) → fit q.z ≡ u → sizes_within q.z ≡ w
            → refused OutOfLimits (stripe_in ns cs b s e) ≡ on_tables q.z (Pick q.c) (stripe_in ns cs b s e)
        by e false w eu ew = refuses q.z (Pick q.c) b s e eu
        by e true false eu ew =
            sym (refused-on (stripe_in ns cs b s e) OutOfLimits q.c (Rebuild.pick q.z q.c) (rw ew refl)) ∙ goes q.z (Pick q.c) b s e eu
        by e true true eu ew = absurd (misfit eu (nodes-few q.z ew))

    pub picked : (x0 : ClientRecord) (items : List NodeRecord) {x : ClientRecord} {r : Picked} {ns' : List NodeRecord} {cs' : List ClientRecord} {s' : List ℕ}
        → fit q.z ≡ true → client_of x0 ≡ fresh_client → x ≡ element_at x0 cs q.c → take (length ns) items ≡ ns
        → Picks (Rebuild.pick q.z q.c (seen_whole q.z (record { items = items }) x b s)) q.z (record { items = items }) x b s' r
        → nodes_in ns' ≡ applied r.change (nodes_in ns) → (r.change ≡ keep → ns' ≡ ns) → cs' ≡ set_at cs q.c r.client
        → PicksOnly ns cs b s d v q r.answer ns' cs' b s' d
    unfolding step
    picked x0 items {x = x} {r = r} fits fresh x-is all m changed kept cs-is =
        let n : length ns ≡ q.z.n = eqb-true _ _ (and_left _ _ fits) in
        let nodes_are : nodes_of q.z.n (record { items = items }) ≡ nodes_in ns = rw (← n) (gathered node_of ns items blank_record all) in (
          refl,
          (
            refl,
            λ e. record {
              said = rw (changed, cs-is, map-put client_of cs q.c r.client)
                  (ap (λ o. answered o.answer (put_whole q.c o.after (stripe_in ns cs b s e))) (rw (nodes_are, client-is x0 _ fresh x-is) at m.said)
                  ∙ goes q.z (Pick q.c) b s e fits);
              left = left-map r.answer (λ h. (kept h.1, cs-is ∙ put-back cs q.c x0 x-is h.0)) m.left;
            },
          ),
        )

  -- ---- an image

  module _ (z : Sizes) (out b d s : List ℕ) where
    -- what is written has n nodes and m clients, within the limits
    writes : writable z (stripe_in ns cs b s d) ≡ true → (sizes_within z ≡ true) × ((length (nodes_in ns) ≡ z.n) × (length (clients_in cs) ≡ z.m))
    unfolding writable records_fit
    writes e = (search and_left, (search (and_left, and_right, eqb-true), search (and_left, and_right, eqb-true)))

    pub refused-image : (fit z ≡ true → z.n ≤ 18 → z.m ≤ 8 → ⊥) → ImagesLent ns cs out b d s z (Refused OutOfLimits) out
    unfolding guard
    refused-image misfit = record { said = by (writable z (stripe_in ns cs b s d)) refl; left = refl }
      where
        never : writable z (stripe_in ns cs b s d) ≡ true → ⊥
        never e =
            let w = writes e in
            misfit (rw (eq-eqb (length ns) z.n (sym (length-map ns node_of) ∙ w.1.0), eq-eqb (length cs) z.m (sym (length-map cs client_of) ∙ w.1.1)) refl)
            (nodes-few z w.0) (clients-few z w.0)

        by : (u : Bool) → writable z (stripe_in ns cs b s d) ≡ u → refused OutOfLimits out ≡ written z (stripe_in ns cs b s d) out
        by true e = absurd (never e)
        by false e = rw e refl

    pub imaged : (nodes : List NodeRecord) (clients : List ClientRecord) {a : Answer} {out' : List ℕ}
        → fit z ≡ true → take (length ns) nodes ≡ ns → take (length cs) clients ≡ cs
        → Meets (written z (stripe_of z (record { nodes = record { items = nodes }; clients = record { items = clients } }) b s d) out) a [] out' (out' ≡ out)
        → ImagesLent ns cs out b d s z a out'
    imaged nodes clients {a = a} {out' = out'} fits n-are c-are m =
        let n : length ns ≡ z.n = eqb-true _ _ (and_left _ _ fits) in
        let c : length cs ≡ z.m = eqb-true _ _ (and_right _ _ fits) in
        let same : stripe_of z (record { nodes = record { items = nodes }; clients = record { items = clients } }) b s d ≡ stripe_in ns cs b s d =
        rw (← n, ← c, gathered node_of ns nodes blank_record n-are, gathered client_of cs clients blank_client c-are) refl in
        subst (λ (u : Stripe). Meets (written z u out) a [] out' (out' ≡ out)) same m
