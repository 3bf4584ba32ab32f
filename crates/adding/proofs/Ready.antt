-- What an add within the limits has: of its write in hand, and of its tables. Assumes nothing.
use Rattle.std.specs.Prelude.{Some}
use mathlib.Core.Path.{◌≡◌}
use mathlib.Core.Bool.{true, ◌&&◌}
use Prim.Native.Nat.{ℕ, ◌+◌, ◌-◌, ◌*◌, ◌≤◌, ◌<◌}
use native.Mathlib.Omega.{arith}
use lib.Dec.{ltb}
use lib.ListN.{length}
use borrow.Author.Tests.{le-leb, leb-true, ltb-true}
use Rattle.basics.proofs.Tests.{and_left, and_right}
use Rattle.entries.specs.Entries.{id_within}
use Rattle.entries.specs.View.{ids_of}
use Rattle.entries.proofs.Lists.{ids-count}
use Rattle.records.specs.declared.Sizes.{Sizes}
use Rattle.records.specs.declared.Write.{Write}
use Rattle.records.specs.declared.ClientRecord.{ClientRecord}
use Rattle.records.specs.Sizes.{sizes_within, is_node, is_redundant, is_client}
use Rattle.records.specs.Client.{hand_within, client_within}
use Rattle.records.specs.View.{write_of, client_of}
use Rattle.machine.specs.Stripe.{Local, blocks_fit}
use Rattle.machine.specs.Writing.{records_fit, tables_fit}
use Rattle.limits.proofs.Limits.{range-low, block_in_lem}
use Rattle.adding.specs.Adding.{add_within}

module _ (z : Sizes) (client : ClientRecord) (w : Write) (held : client.hand ≡ Some w) (e : client_within z (client_of client) ≡ true) where
  hand : hand_within z (Some (write_of w)) (ids_of client.finished) ≡ true
  unfolding client_within
  hand = rw held at (and_left (hand_within z (client_of client).hand (client_of client).finished) _ e)

  pub hand-position : 1 ≤ w.id.position
  unfolding id_within
  hand-position = let h = hand in search (and_left, and_right, leb-true)

  pub hand-room : client.finished.count < 8
  hand-room =
      let h = hand in
      let room : length (ids_of client.finished) < 8 = search (and_right, ltb-true) in
      omega (arith, ids-count client.finished)

module _ (z : Sizes) (l : Local) (within : add_within z l ≡ true) where
  pub records-fit : (sizes_within z && records_fit z l) ≡ true
  records-fit = rw (and_left (sizes_within z) _ within) (and_left (records_fit z l) _ (and_right (sizes_within z) _ within))

  tables : tables_fit z l ≡ true
  tables = and_right (records_fit z l) _ (and_right (sizes_within z) _ within)

  pub record Tables (c j : ℕ) : Type 0 where
    pub node_first : 1 ≤ j
    pub block_there : (j - 1) * z.b + z.b ≤ length l.blocks
    pub client_first : 1 ≤ c
    pub difference_there : (c - 1) * z.b + z.b ≤ length l.differences

  pub tables-there : (c j : ℕ) → (is_client z c && is_redundant z j) ≡ true → Tables c j
  tables-there c j range =
      let client-in = and_left (is_client z c) _ range in
      let redundant = and_right (is_client z c) _ range in
      let above = ltb-true z.k j (and_left (ltb z.k j) _ redundant) in
      let node_in : is_node z j ≡ true = rw (le-leb 1 j (omega arith), and_right (ltb z.k j) _ redundant) in
      record {
        node_first = omega arith;
        block_there = block_in_lem z.n z.b j l.blocks node_in (and_left (blocks_fit z l.blocks) _ tables);
        client_first = range-low z.m c client-in;
        difference_there = block_in_lem z.m z.b c l.differences client-in (and_right (blocks_fit z l.blocks) _ tables);
      }
