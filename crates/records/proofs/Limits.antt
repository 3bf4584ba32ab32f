-- The limits of a record's parts, by the tests of the code. Assumes nothing.
use Rattle.std.specs.Prelude.{Option, None, Some}
use mathlib.Core.Path.{◌≡◌, refl}
use mathlib.Core.Bool.{Bool, true, false, ◌&&◌, and_assoc}
use mathlib.Core.List.{List}
use Prim.Native.Nat.{◌≤◌, ◌<◌}
use native.Mathlib.Omega.{arith}
use lib.Dec.{leb}
use borrow.Author.Tests.{le-leb, leb-true, ltb-true}
use lib.ListN.{length}
use Rattle.basics.proofs.Tests.{and_left, and_right}
use Rattle.code.specs.Code.{code_sizes}
use Rattle.code.proofs.Sizes.{sizes-of}
use Rattle.entries.specs.declared.WriteId.{WriteId}
use Rattle.entries.specs.Entries.{entry_limit, finished_limit, ids_within}
use Rattle.entries.specs.View.{entries_of}
use Rattle.entries.proofs.Lists.{entries-count}
use Rattle.records.specs.declared.Sizes.{Sizes}
use Rattle.records.specs.declared.NodeRecord.{NodeRecord}
use Rattle.records.specs.Sizes.{node_limit, sizes_within}
use Rattle.records.specs.Node.{node_within}
use Rattle.records.specs.Client.{Client, Write, hand_within, rebuild_within, client_within}
use Rattle.records.specs.ClientSteps.{lists_within}
use Rattle.records.specs.View.{node_of}

-- ---- a client

pub nodes-few : (z : Sizes) → sizes_within z ≡ true → z.n ≤ node_limit
unfolding sizes_within
nodes-few z e = omega (arith, sizes-of z.k z.n z.b (and_left (code_sizes z.k z.n z.b) _ e))

-- within its limits a hand leaves at most 8 finished ids
hand-room : (z : Sizes) (hand : Option Write) (ids : List WriteId) → hand_within z hand ids ≡ true → leb (length ids) finished_limit ≡ true
hand-room z None ids e = e
hand-room z (Some w) ids e = le-leb (length ids) finished_limit (omega (arith, few))
  where
    few : length ids < finished_limit
    few = search (and_right, ltb-true)

-- so the test of the finished list's length may stand beside that of its ids
pub client-tests : (z : Sizes) (x : Client) → client_within z x ≡ (hand_within z x.hand x.finished && (rebuild_within z x.rebuild && lists_within z x))
unfolding client_within
client-tests z x =
    beside (hand_within z x.hand x.finished) (rebuild_within z x.rebuild) (leb (length x.finished) finished_limit) (ids_within z.k z.m x.finished)
    (leb (length x.moved) finished_limit) (ids_within z.k z.m x.moved) _ (hand-room z x.hand x.finished)
  where
    beside : (h r l f m i w : Bool) → (h ≡ true → l ≡ true) → (h && (r && (f && (m && (i && w))))) ≡ (h && (r && ((l && f) && ((m && i) && w))))
    beside true r l f m i w e = rw (e refl, and_assoc m i w)
    beside false r l f m i w e = refl

-- a record within the limits has few entries
pub few-entries : (z : Sizes) (x : NodeRecord) → node_within z (node_of x) ≡ true → x.entries.count ≤ entry_limit
unfolding node_within
few-entries z x e =
    let few : length (entries_of x.entries) ≤ entry_limit = search (and_left, and_right, leb-true) in
    omega (arith, entries-count x.entries)
