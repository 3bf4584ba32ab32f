-- What is known of sizes, records and places once they are within the limits. Assumes nothing.
use mathlib.Core.Bool.{true}
use mathlib.Core.Path.{◌≡◌}
use Prim.Native.Nat.{ℕ, ◌≤◌, ◌<◌}
use native.Mathlib.Omega.{arith}
use lib.ListN.{length, get_or}
use borrow.Author.Tests.{leb-true, ltb-true}
use Rattle.basics.specs.Lists.{every_of}
use Rattle.basics.proofs.Lists.{length-list_of, get_or-list_of}
use Rattle.basics.proofs.Tests.{and_left, and_right}
use Rattle.entries.specs.Entries.{finished_limit}
use Rattle.entries.specs.View.{blank_id, ids_of}
use Rattle.image.specs.declared.Places.{Places}
use Rattle.image.specs.Image.{image_length, writable}
use Rattle.image.specs.Places.{places_of}
use Rattle.image.proofs.Limits.{every-place}
use Rattle.image.proofs.Clients.{few-finished}
use Rattle.image.proofs.Longest.{within-most}
use Rattle.machine.specs.Stripe.{Stripe}
use Rattle.records.specs.declared.ClientRecord.{ClientRecord}
use Rattle.records.specs.declared.Sizes.{Sizes}
use Rattle.records.specs.Client.{Rebuild, NoRebuild, Locking, Picking, Writing, Settling, Unlocking, fresh_client, hand_within, rebuild_within, remembered, client_within}
use Rattle.records.specs.Sizes.{node_limit, sizes_within}
use Rattle.records.specs.View.{rebuild_of, client_of}
use Rattle.step.specs.declared.clients.Clients.{Clients}
use Rattle.step.specs.View.{blank_client, clients_of}

-- ---- a client's lists

-- the lists of a client's record are within their arrays
abbrev pub Counted : ClientRecord → Type 0
Counted x = (x.finished.count ≤ finished_limit) × (x.moved.count ≤ finished_limit) × (length (remembered (rebuild_of x.phase)) ≤ node_limit)

locked-few : (z : Sizes) (r : Rebuild) → z.n ≤ 18 → rebuild_within z r ≡ true → length (remembered r) ≤ node_limit
locked-few z NoRebuild n h = omega arith
locked-few z (Locking old) n h =
    let few : length old < z.n = search (and_left, and_right, ltb-true) in
    omega (arith, n, few)
locked-few z (Picking t) n h = omega arith
locked-few z (Writing x set e) n h = omega arith
locked-few z (Settling x e) n h = omega arith
locked-few z (Unlocking x) n h = omega arith

client-counted : (z : Sizes) (x : ClientRecord) → z.n ≤ 18 → client_within z (client_of x) ≡ true → Counted x
unfolding client_within
client-counted z x n h =
    let a = and_left (hand_within z (client_of x).hand (client_of x).finished) _ h in
    let b = and_right (hand_within z (client_of x).hand (client_of x).finished) _ h in
    let moved : length (ids_of x.moved) ≤ 8 = search (and_left, and_right, leb-true) in
    let finished = few-finished z (client_of x).hand (client_of x).finished a in (
      omega (arith, finished, length-list_of x.finished.count (λ i. get_or x.finished.items i blank_id)),
      omega (arith, moved, length-list_of x.moved.count (λ i. get_or x.moved.items i blank_id)),
      locked-few z (rebuild_of x.phase) n (and_left (rebuild_within z (rebuild_of x.phase)) _ b),
    )

pub all-counted : (z : Sizes) (x : Clients) → z.n ≤ 18 → every_of (client_within z) (clients_of z.m x) ≡ true
    → (i : ℕ) → i < z.m → Counted (get_or x.items i blank_client)
all-counted z x n e i l =
    let at : ℕ → _ = λ j. client_of (get_or x.items j blank_client) in
    let here = every-place (client_within z) (clients_of z.m x) fresh_client e i (omega (arith, l, length-list_of z.m at)) in
    client-counted z (get_or x.items i blank_client) n (rw (get_or-list_of z.m at i fresh_client l) at here)

-- ---- the places rise, and the image is small

pub record Rising (z : Sizes) (p : Places) : Type 0 where
  pub clients : 60 ≤ p.clients
  pub blocks : p.clients ≤ p.blocks
  pub differences : p.blocks ≤ p.differences
  pub spare : p.differences ≤ p.spare
  pub end : p.spare ≤ p.end
  pub few : p.end ≤ 183884

pub rising : (z : Sizes) (p : Places) → sizes_within z ≡ true → p ≡ places_of z → Rising z p
unfolding image_length
rising z p h e =
    rw e
    (record {
      clients = omega arith;
      blocks = omega arith;
      differences = omega arith;
      spare = omega arith;
      end = omega arith;
      few = within-most z h;
    })

-- what may be written has sizes within the limits
pub sizes-of : (z : Sizes) (s : Stripe) → writable z s ≡ true → sizes_within z ≡ true
unfolding writable
sizes-of z s h = and_left (sizes_within z) _ h
