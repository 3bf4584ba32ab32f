-- What holds of the records that a call is lent once they are within the limits. Assumes nothing.
use mathlib.Core.Path.{◌≡◌, sym, ◌∙◌}
use mathlib.Core.Bool.{true, ◌&&◌}
use Prim.Native.Nat.{ℕ, ◌*◌, ◌≤◌, ◌<◌}
use native.Mathlib.Omega.{arith}
use lib.Dec.{leb}
use lib.ListN.{length}
use borrow.Author.Tests.{leb-true, ltb-true}
use Rattle.basics.proofs.Tests.{and_left, and_right}
use Rattle.entries.specs.View.{ids_of}
use Rattle.entries.proofs.Lists.{ids-count}
use Rattle.records.specs.declared.Sizes.{Sizes}
use Rattle.records.specs.declared.NodeRecord.{NodeRecord}
use Rattle.records.specs.declared.ClientRecord.{ClientRecord}
use Rattle.records.specs.Sizes.{sizes_within}
use Rattle.records.specs.Node.{node_within}
use Rattle.records.specs.Client.{client_within}
use Rattle.records.specs.View.{node_of, client_of}
use Rattle.records.proofs.Limits.{nodes-few, client-tests, few-entries}

-- what a call at one node may count on
pub record Lent (z : Sizes) (node : NodeRecord) (client : ClientRecord) : Type 0 where
  pub nodes : z.n ≤ 18
  pub entries : node.entries.count ≤ 16
  pub finished : client.finished.count ≤ 8
  pub moved : client.moved.count ≤ 8
  pub round : client.round < 2 * z.n

pub lent-within : (z : Sizes) (node : NodeRecord) (client : ClientRecord)
    → (sizes_within z && (node_within z (node_of node) && client_within z (client_of client))) ≡ true → Lent z node client
lent-within z node client e =
    let tests = sym (client-tests z (client_of client)) ∙ and_right (node_within z (node_of node)) _ (and_right (sizes_within z) _ e) in
    let finished : length (ids_of client.finished) ≤ 8 = search (and_left, and_right, leb-true) in
    let moved : length (ids_of client.moved) ≤ 8 = search (and_left, and_right, leb-true) in
    record {
      nodes = nodes-few z (search and_left);
      entries = few-entries z node (search (and_left, and_right));
      finished = omega (arith, ids-count client.finished);
      moved = omega (arith, ids-count client.moved);
      round = search (and_right, and_left, ltb-true);
    }

pub range-high : (m j : ℕ) → (leb 1 j && leb j m) ≡ true → j ≤ m
range-high m j e = leb-true j m (and_right (leb 1 j) (leb j m) e)
