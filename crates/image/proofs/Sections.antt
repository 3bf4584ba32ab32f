-- The sections of an image: how long they are, what the header says of them, and that they stand there. Assumes nothing.
use mathlib.Core.Bool.{true, ◌&&◌}
use mathlib.Core.List.{List, [], ◌∷◌, append-nil, append_assoc}
use mathlib.Core.Path.{◌≡◌, refl, ap, ◌∙◌}
use Prim.Native.Nat.{ℕ, zero, suc, ◌+◌, ◌*◌, ◌≤◌, ◌<◌}
use native.Mathlib.Omega.{arith}
use lib.Dec.{eqb}
use lib.ListN.{length, get_or}
use borrow.Author.Tests.{eqb-true}
use Rattle.octets.specs.Octets.{word_at}
use Rattle.octets.proofs.Pieces.{length-joined}
use Rattle.basics.specs.Lists.{every_of}
use Rattle.basics.proofs.Tests.{and_both}
use Rattle.code.proofs.LimitLaws.{small-table}
use Rattle.machine.specs.Stripe.{Stripe, nodes_fit, blocks_fit, differences_fit}
use Rattle.records.specs.declared.Sizes.{Sizes}
use Rattle.records.specs.Client.{Client, fresh_client, client_within}
use Rattle.records.specs.Node.{Node, failed_node, node_within}
use Rattle.records.specs.Sizes.{sizes_within}
use Rattle.image.specs.Records.{node_bytes, client_bytes}
use Rattle.image.specs.Image.{sizes_bytes, nodes_bytes, clients_bytes, header, image, image_length, node_whole, client_whole, clients_fit, records_fit, tables_fit, sets_fit, writable}
use Rattle.image.specs.Reading.{offset_at, length_at, section_at}
use Rattle.image.specs.Claims.{Located}
use Rattle.image.proofs.Limits.{Small, small}
use Rattle.image.proofs.Nodes.{word_back, length-node_bytes}
use Rattle.image.proofs.Clients.{length-client_bytes}
use Rattle.image.proofs.Rows.{flat, before, part_at, length-flat}

-- ---- what the call tests

pub record Facts (z : Sizes) (s : Stripe) : Type 0 where
  pub small : Small z
  pub nodes : length s.nodes ≡ z.n
  pub nodes_within : every_of (node_within z) s.nodes ≡ true
  pub nodes_whole : every_of node_whole s.nodes ≡ true
  pub clients : length s.clients ≡ z.m
  pub clients_within : every_of (client_within z) s.clients ≡ true
  pub clients_whole : every_of client_whole s.clients ≡ true
  pub blocks : length s.blocks ≡ z.n * z.b
  pub differences : length s.differences ≡ z.m * z.b
  pub spare : length s.spare ≡ z.n * z.b

pub facts : (z : Sizes) (s : Stripe) → writable z s ≡ true → Facts z s
unfolding writable records_fit tables_fit sets_fit
facts z s h =
    let a = and_both (sizes_within z) _ h in
    let b = and_both (nodes_fit z s.nodes && clients_fit z s.clients) _ a.1 in
    let n = and_both (nodes_fit z s.nodes) (clients_fit z s.clients) b.0 in
    let ns = and_both (eqb (length s.nodes) z.n) _ n.0 in
    let cs = and_both (eqb (length s.clients) z.m) _ n.1 in
    let c = and_both (blocks_fit z s.blocks && (differences_fit z s.differences && blocks_fit z s.spare)) _ b.1 in
    let t = and_both (blocks_fit z s.blocks) _ c.0 in
    let u = and_both (differences_fit z s.differences) (blocks_fit z s.spare) t.1 in
    let w = and_both (every_of node_whole s.nodes) (every_of client_whole s.clients) c.1 in
    record {
      small = small z a.0;
      nodes = eqb-true (length s.nodes) z.n ns.0;
      nodes_within = ns.1;
      nodes_whole = w.0;
      clients = eqb-true (length s.clients) z.m cs.0;
      clients_within = cs.1;
      clients_whole = w.1;
      blocks = eqb-true (length s.blocks) (z.n * z.b) t.0;
      differences = eqb-true (length s.differences) (z.m * z.b) u.0;
      spare = eqb-true (length s.spare) (z.n * z.b) u.1;
    }

-- ---- how long the sections are

pub length-header : (z : Sizes) → length (header z) ≡ 52
unfolding header
length-header z = refl

pub length-nodes_bytes : (nodes : List Node) → length (nodes_bytes nodes) ≡ length nodes * 140
unfolding nodes_bytes
length-nodes_bytes nodes = length-joined 140 (length nodes) (λ i. node_bytes (get_or nodes i failed_node)) (λ i l. length-node_bytes (get_or nodes i failed_node))

pub length-clients_bytes : (clients : List Client) → length (clients_bytes clients) ≡ length clients * 135
unfolding clients_bytes
length-clients_bytes clients =
    length-joined 135 (length clients) (λ i. client_bytes (get_or clients i fresh_client)) (λ i l. length-client_bytes (get_or clients i fresh_client))

module _ (z : Sizes) (s : Stripe) where
  pub parts : List (List ℕ)
  parts = header z ∷ sizes_bytes z ∷ nodes_bytes s.nodes ∷ clients_bytes s.clients ∷ s.blocks ∷ s.differences ∷ s.spare ∷ []

  flat-image : image z s ≡ flat parts
  unfolding image parts
  flat-image = simp (append_assoc, append-nil)

  -- ---- what the header says: each word is read back

  first_word : word_at (image z s) 0 ≡ 6
  unfolding image header
  first_word = refl

  module _ (f : Facts z s) where
    abbrev n : ℕ
    n = z.n

    abbrev nb : ℕ
    nb = z.n * z.b

    abbrev mb : ℕ
    mb = z.m * z.b

    nodes-long : length (nodes_bytes s.nodes) ≡ z.n * 140
    nodes-long = length-nodes_bytes s.nodes ∙ ap (λ k. k * 140) f.nodes

    clients-long : length (clients_bytes s.clients) ≡ z.m * 135
    clients-long = length-clients_bytes s.clients ∙ ap (λ k. k * 135) f.clients

    few-blocks : nb ≤ 73728
    few-blocks = small-table z.n z.b f.small.n f.small.b

    few-differences : mb ≤ 73728
    few-differences = small-table z.m z.b (omega (arith, f.small.m)) f.small.b

    offset0 : offset_at (image z s) 0 ≡ 52
    unfolding image header
    offset0 = refl

    offset1 : offset_at (image z s) 1 ≡ 52 + 8
    unfolding image header
    offset1 = refl

    offset2 : offset_at (image z s) 2 ≡ 52 + 8 + z.n * 140
    unfolding image header
    offset2 = word_back (52 + 8 + z.n * 140) (omega (arith, f.small.n))

    offset3 : offset_at (image z s) 3 ≡ 52 + 8 + z.n * 140 + z.m * 135
    unfolding image header
    offset3 = word_back (52 + 8 + z.n * 140 + z.m * 135) (omega (arith, f.small.n, f.small.m))

    offset4 : offset_at (image z s) 4 ≡ 52 + 8 + z.n * 140 + z.m * 135 + z.n * z.b
    unfolding image header
    offset4 = word_back (52 + 8 + z.n * 140 + z.m * 135 + z.n * z.b) (omega (arith, f.small.n, f.small.m, few-blocks))

    offset5 : offset_at (image z s) 5 ≡ 52 + 8 + z.n * 140 + z.m * 135 + z.n * z.b + z.m * z.b
    unfolding image header
    offset5 =
        word_back (52 + 8 + z.n * 140 + z.m * 135 + z.n * z.b + z.m * z.b) (omega (arith, f.small.n, f.small.m, few-blocks, few-differences))

    length0 : length_at (image z s) 0 ≡ 8
    unfolding image header
    length0 = refl

    length1 : length_at (image z s) 1 ≡ z.n * 140
    unfolding image header
    length1 = word_back (z.n * 140) (omega (arith, f.small.n))

    length2 : length_at (image z s) 2 ≡ z.m * 135
    unfolding image header
    length2 = word_back (z.m * 135) (omega (arith, f.small.m))

    length3 : length_at (image z s) 3 ≡ z.n * z.b
    unfolding image header
    length3 = word_back (z.n * z.b) (omega (arith, few-blocks))

    length4 : length_at (image z s) 4 ≡ z.m * z.b
    unfolding image header
    length4 = word_back (z.m * z.b) (omega (arith, few-differences))

    length5 : length_at (image z s) 5 ≡ z.n * z.b
    unfolding image header
    length5 = word_back (z.n * z.b) (omega (arith, few-blocks))

    pub whole_length : length (image z s) ≡ image_length z
    unfolding parts image_length
    whole_length =
        ap length flat-image ∙ length-flat parts
        ∙ omega (arith, length-header z, nodes-long, clients-long, f.blocks, f.differences, f.spare)

    -- ---- each section is where the header says

    stands : (i w at : ℕ) → length_at (image z s) i ≡ w → offset_at (image z s) i ≡ at → suc i < 7 → length (get_or parts (suc i) []) ≡ w → before (suc i) parts ≡ at
        → section_at (image z s) i ≡ get_or parts (suc i) []
    unfolding parts
    stands i w at e q l long begins = rw (e, q, flat-image) (part_at w at (suc i) parts l long begins)

    follows : (i : ℕ) → i < 5 → offset_at (image z s) (suc i) ≡ offset_at (image z s) i + length_at (image z s) i
    follows zero l = rw (offset1, offset0, length0)
    follows (suc zero) l = rw (offset2, offset1, length1)
    follows (suc (suc zero)) l = rw (offset3, offset2, length2)
    follows (suc (suc (suc zero))) l = rw (offset4, offset3, length3)
    follows (suc (suc (suc (suc zero)))) l = rw (offset5, offset4, length4)
    follows (suc (suc (suc (suc (suc i))))) l = absurd (omega arith)

    pub located : Located z s (image z s)
    unfolding parts image_length
    located =
        let h = length-header z in
        record {
          count = first_word;
          begins = offset0;
          follows = follows;
          ends = rw (offset5, length5, whole_length) (omega arith);
          sizes = stands 0 8 52 length0 offset0 (omega arith) refl (omega (arith, h));
          nodes = stands 1 (z.n * 140) _ length1 offset1 (omega arith) nodes-long (omega (arith, h));
          clients = stands 2 (z.m * 135) _ length2 offset2 (omega arith) clients-long (omega (arith, h, nodes-long));
          blocks = stands 3 nb _ length3 offset3 (omega arith) f.blocks (omega (arith, h, nodes-long, clients-long));
          differences = stands 4 mb _ length4 offset4 (omega arith) f.differences (omega (arith, h, nodes-long, clients-long, f.blocks));
          spare = stands 5 nb _ length5 offset5 (omega arith) f.spare (omega (arith, h, nodes-long, clients-long, f.blocks, f.differences));
        }
