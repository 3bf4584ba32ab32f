-- The claims on images. Assumes nothing.
use mathlib.Core.Path.{◌≡◌, sym, ap, ap₂, ◌∙◌}
use native.Mathlib.Nat.{le_refl}
use native.Mathlib.Omega.{arith}
use lib.ListN.{length, get_or}
use Rattle.octets.proofs.Pieces.{items_back}
use Rattle.machine.specs.Stripe.{Stripe}
use Rattle.records.specs.declared.Sizes.{Sizes}
use Rattle.records.specs.Client.{fresh_client, client_within}
use Rattle.records.specs.Node.{failed_node, node_within}
use Rattle.image.specs.Records.{node_bytes, client_bytes}
use Rattle.image.specs.Image.{sizes_bytes, nodes_bytes, clients_bytes, image, node_whole, client_whole}
use Rattle.image.specs.Reading.{State, section_at, sizes_from, node_from, nodes_from, client_from, clients_from, stripe_from, state_from}
use Rattle.image.specs.Claims.{FixedLength, Sections, ReadBack, EqualBytes, UnequalBytes}
use Rattle.image.proofs.Limits.{every-place, Small}
use Rattle.image.proofs.Nodes.{word_back, length-node_bytes, node-back}
use Rattle.image.proofs.Clients.{length-client_bytes, client-back}
use Rattle.image.proofs.Sections.{Facts, facts, whole_length, located}

pub fixed-length : FixedLength
fixed-length z s h = whole_length z s (facts z s h)

pub sections : Sections
sections z s h = located z s (facts z s h)

sizes-back : (z : Sizes) → Small z → sizes_from (sizes_bytes z) ≡ z
sizes-back z s = λ i. record { k = z.k; n = z.n; b = word_back z.b (omega (arith, s.b)) i; failures = z.failures; m = z.m }

nodes-back : (z : Sizes) (s : Stripe) → Facts z s → nodes_from z.n (nodes_bytes s.nodes) ≡ s.nodes
unfolding nodes_from nodes_bytes
nodes-back z s f =
    rw (← f.nodes)
    (items_back 140 (length s.nodes) node_bytes node_from failed_node s.nodes length-node_bytes (le_refl (length s.nodes))
    (λ i l. node-back z (get_or s.nodes i failed_node) (every-place (node_within z) s.nodes failed_node f.nodes_within i l)
    (every-place node_whole s.nodes failed_node f.nodes_whole i l)))

clients-back : (z : Sizes) (s : Stripe) → Facts z s → clients_from z.m (clients_bytes s.clients) ≡ s.clients
unfolding clients_from clients_bytes
clients-back z s f =
    rw (← f.clients)
    (items_back 135 (length s.clients) client_bytes client_from fresh_client s.clients length-client_bytes (le_refl (length s.clients))
    (λ i l. client-back z (get_or s.clients i fresh_client) f.small (every-place (client_within z) s.clients fresh_client f.clients_within i l)
    (every-place client_whole s.clients fresh_client f.clients_whole i l)))

pub read_back : ReadBack
unfolding state_from stripe_from
read_back z s h =
    let f = facts z s h in
    let l = located z s f in
    let b = image z s in
    let sizes : sizes_from (section_at b 0) ≡ z = ap sizes_from l.sizes ∙ sizes-back z f.small in
    let stripe : stripe_from z b ≡ s = λ i. record {
      nodes = (ap (nodes_from z.n) l.nodes ∙ nodes-back z s f) i;
      clients = (ap (clients_from z.m) l.clients ∙ clients-back z s f) i;
      blocks = l.blocks i;
      spare = l.spare i;
      differences = l.differences i;
    } in
    ap (λ (y : Sizes). record { sizes = y; stripe = stripe_from y b }) sizes ∙ ap (λ (t : Stripe). record { sizes = z; stripe = t }) stripe

pub equal-bytes : EqualBytes
equal-bytes z z' s s' = ap₂ image

pub unequal-bytes : UnequalBytes
unequal-bytes z z' s s' h h' e =
    let q = sym (read_back z s h) ∙ ap state_from e ∙ read_back z' s' h' in
    (ap (λ (t : State). t.sizes) q, ap (λ (t : State). t.stripe) q)
