-- The sections, one after the other. Assumes nothing.
use mathlib.Core.Path.{◌≡◌, refl, sym, ap, subst, ◌∙◌}
use Prim.Native.Nat.{ℕ, ◌+◌, ◌*◌, ◌≤◌}
use native.Mathlib.Omega.{arith}
use lib.ListN.{length}
use Rattle.std.proofs.lemmas.List.{length-take-le}
use Rattle.octets.proofs.Filling.{fill, filled_none, full}
use Rattle.entries.specs.Entries.{entry_limit}
use Rattle.records.specs.declared.NodeRecord.{NodeRecord}
use Rattle.image.specs.declared.Places.{Places}
use Rattle.image.specs.Image.{sizes_bytes, nodes_bytes, clients_bytes, header, image, image_length}
use Rattle.image.proofs.Limits.{small}
use Rattle.image.proofs.Sections.{facts, length-header, length-nodes_bytes, length-clients_bytes}
use Rattle.step.specs.View.{blank_client, stripe_of}
use Rattle.stripe.specs.View.{blank_record}
use Rattle.stripe.proofs.NodeLists.{within-counted}
use Rattle.imaging.proofs.Items.{each-first}
use Rattle.imaging.proofs.Laws.{Counted, all-counted, sizes-of}
use Rattle.imaging.proofs.Arrays.{arrays, clients-put, nodes-put}
use Rattle.imaging.proofs.put_image.Goals as goal

pub of-p-requires : goal.of-p-requires
of-p-requires c = sizes-of _ _ c.requires.0

pub sizes_bytes-requires : goal.sizes_bytes-requires
sizes_bytes-requires c = let s = small c.args.z (sizes-of _ _ c.requires.0) in
    (s.k, s.n, s.failures, s.m, s.b)

pub put_header-requires : goal.put_header-requires
unfolding image_length
put_header-requires c = (sizes-of _ _ c.requires.0, omega (arith, c.requires.1))

pub put-requires : goal.put-requires
unfolding image_length
put-requires c = omega (arith, c.put_header.ensures.long, c.requires.1, c.sizes_bytes.type_inv)

pub shared_ref_as_front-put_records : goal.shared_ref_as_front-put_records
shared_ref_as_front-put_records c = (facts c.args.z _ c.requires.0).small.n

pub put_records-requires-clause-fit : goal.put_records-requires-clause-fit
put_records-requires-clause-fit c = let a = c.args in
    let f = facts a.z _ c.requires.0 in
    let few : a.z.n ≤ length a.stripe.nodes.items = omega (arith, f.small.n, (arrays a.stripe _ c.well_formed.1.0).0) in
    each-first (λ (x : NodeRecord). x.entries.count ≤ entry_limit) blank_record a.z.n a.stripe.nodes.items few (within-counted a.z a.z.n a.stripe.nodes f.nodes_within).few

pub put_records-requires-clause-room : goal.put_records-requires-clause-room
unfolding image_length
put_records-requires-clause-room c = let a = c.args in
    let f = facts a.z _ c.requires.0 in
    let few : a.z.n ≤ length a.stripe.nodes.items = omega (arith, f.small.n, (arrays a.stripe _ c.well_formed.1.0).0) in
    let room : 60 + a.z.n * 140 ≤ length c.put.new.out = omega (arith, c.put.ensures.long, c.put_header.ensures.long, c.requires.1) in
    subst (λ (k : ℕ). 60 + k * 140 ≤ length c.put.new.out) (sym (length-take-le a.z.n a.stripe.nodes.items few)) room

pub shared_ref_as_front-put_records-2 : goal.shared_ref_as_front-put_records-2
shared_ref_as_front-put_records-2 c = (facts c.args.z _ c.requires.0).small.m

pub put_records-requires-2-clause-fit : goal.put_records-requires-2-clause-fit
put_records-requires-2-clause-fit c = let a = c.args in
    let f = facts a.z _ c.requires.0 in
    let few : a.z.m ≤ length a.stripe.clients.items = omega (arith, f.small.m, (arrays a.stripe _ c.well_formed.1.0).1) in
    each-first Counted blank_client a.z.m a.stripe.clients.items few (all-counted a.z a.stripe.clients f.small.n f.clients_within)

pub put_records-requires-2-clause-room : goal.put_records-requires-2-clause-room
unfolding image_length
put_records-requires-2-clause-room c = let a = c.args in
    let f = facts a.z _ c.requires.0 in
    let at = ap (λ (p : Places). p.clients) c.of-p.ensures in
    let few : a.z.m ≤ length a.stripe.clients.items = omega (arith, f.small.m, (arrays a.stripe _ c.well_formed.1.0).1) in
    let room : c.of-p.result.clients + a.z.m * 135 ≤ length c.put_records.new.out =
    omega (arith, at, (c.put_records.ensures blank_record).long, c.put.ensures.long, c.put_header.ensures.long, c.requires.1) in
    subst (λ (k : ℕ). c.of-p.result.clients + k * 135 ≤ length c.put_records.new.out) (sym (length-take-le a.z.m a.stripe.clients.items few)) room

pub put-requires-2 : goal.put-requires-2
unfolding image_length
put-requires-2 c = let f = facts c.args.z _ c.requires.0 in
    let at = ap (λ (p : Places). p.blocks) c.of-p.ensures in
    omega (arith, at, f.blocks, (c.put_records-2.ensures blank_client).long, (c.put_records.ensures blank_record).long, c.put.ensures.long, c.put_header.ensures.long, c.requires.1)

pub put-requires-3 : goal.put-requires-3
unfolding image_length
put-requires-3 c = let f = facts c.args.z _ c.requires.0 in
    let at = ap (λ (p : Places). p.differences) c.of-p.ensures in
    omega (arith, at, f.differences, c.put-2.ensures.long, (c.put_records-2.ensures blank_client).long, (c.put_records.ensures blank_record).long, c.put.ensures.long, c.put_header.ensures.long, c.requires.1)

pub put-requires-4 : goal.put-requires-4
unfolding image_length
put-requires-4 c = let f = facts c.args.z _ c.requires.0 in
    let at = ap (λ (p : Places). p.spare) c.of-p.ensures in
    omega (arith, at, f.spare, c.put-3.ensures.long, c.put-2.ensures.long, (c.put_records-2.ensures blank_client).long, (c.put_records.ensures blank_record).long, c.put.ensures.long, c.put_header.ensures.long, c.requires.1)

pub shape_of-out : goal.shape_of-out
shape_of-out c = c.put-4.ensures.long ∙ c.put-3.ensures.long ∙ c.put-2.ensures.long ∙ (c.put_records-2.ensures blank_client).long ∙ (c.put_records.ensures blank_record).long
    ∙ c.put.ensures.long ∙ c.put_header.ensures.long

pub returns : goal.returns
unfolding image image_length
returns c = let z = c.args.z in
    let s = stripe_of z c.args.stripe c.args.blocks.now c.args.spare.now c.args.differences.now in
    let f = facts z s c.requires.0 in
    let e = c.of-p.ensures in
    let size = length c.args.out.now in
    let nodes : length (nodes_bytes s.nodes) ≡ z.n * 140 = length-nodes_bytes s.nodes ∙ ap (λ k. k * 140) f.nodes in
    let clients : length (clients_bytes s.clients) ≡ z.m * 135 = length-clients_bytes s.clients ∙ ap (λ k. k * 135) f.clients in
    let f1 = fill 52 52 (header z) (filled_none c.args.out.now) c.put_header.ensures refl (length-header z) refl in
    let f2 = fill 8 60 (sizes_bytes z) f1 c.put.ensures c.sizes_bytes.ensures refl refl in
    let f3 = fill (z.n * 140) (60 + z.n * 140) (nodes_bytes s.nodes) f2
    (nodes-put z.n c.args.stripe.nodes (omega (arith, f.small.n, (arrays c.args.stripe _ c.well_formed.1.0).0)) c.put_records.ensures) refl nodes refl in
    let f4 = fill (z.m * 135) (60 + z.n * 140 + z.m * 135) (clients_bytes s.clients) f3
    (rw (ap (λ (p : Places). p.clients) e) at
    (clients-put z.m c.args.stripe.clients (omega (arith, f.small.m, (arrays c.args.stripe _ c.well_formed.1.0).1)) c.put_records-2.ensures)) refl clients refl in
    let f5 = fill (z.n * z.b) (60 + z.n * 140 + z.m * 135 + z.n * z.b) s.blocks f4
    (rw (ap (λ (p : Places). p.blocks) e) at c.put-2.ensures) refl f.blocks refl in
    let f6 = fill (z.m * z.b) (60 + z.n * 140 + z.m * 135 + z.n * z.b + z.m * z.b) s.differences f5
    (rw (ap (λ (p : Places). p.differences) e) at c.put-3.ensures) refl f.differences refl in
    let f7 = fill (z.n * z.b) (60 + z.n * 140 + z.m * 135 + z.n * z.b + z.m * z.b + z.n * z.b) s.spare f6
    (rw (ap (λ (p : Places). p.spare) e) at c.put-4.ensures) refl f.spare refl in
    full f7 (omega (arith, c.requires.1))
