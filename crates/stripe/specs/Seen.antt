-- A call on the whole stripe steps one node's record: what it is told of all nodes, and what becomes of the others. Assumes nothing.
use Rattle.std.specs.Prelude.{true, false, cond, ◌&&◌, ◌||◌, not, List, ◌++◌, map, ◌≡◌, ℕ, suc, min, ltb, length, take, drop}
use Rattle.code.specs.declared.nodes.NodeSet.{NodeSet}
use Rattle.code.specs.Decode.{has}
use Rattle.code.specs.View.{node_set_of}
use Rattle.basics.specs.Lists.{every_of}
use Rattle.entries.specs.Entries.{entry_limit}
use Rattle.machine.specs.Stripe.{nodes_fit}
use Rattle.machine.specs.Rebuild.{some_recons, restored}
use Rattle.records.specs.declared.Sizes.{Sizes}
use Rattle.records.specs.Node.{Node, is_recons, held_by, held_at_l1, weakened_by, expired_for, given_back, ticked, node_within}
use Rattle.records.specs.View.{old_lmode, old_lmodes}
use Rattle.stripe.specs.declared.seen.Seen.{Seen}
use Rattle.stripe.specs.declared.seen.Change.{Change}
use Rattle.stripe.specs.declared.seen.Change.TheVariants.{Keep, Expire, Restore, Weaken, Tick}

-- what s says of all nodes
pub record Sees (z : Sizes) (c : ℕ) (nodes : List Node) (s : Seen) : Type 0 where
  pub within : s.within ≡ nodes_fit z nodes
  pub held : s.held ≡ every_of (held_by c) nodes
  pub tight : s.tight ≡ every_of (held_at_l1 c) nodes
  pub recons : s.recons ≡ some_recons nodes

-- of no node; one node later
abbrev pub seen_none : Seen
seen_none = record { within = true; held = true; tight = true; recons = false }

abbrev pub seen_with : Sizes → ℕ → Node → Seen → Seen
seen_with z c x s =
    record {
      within = s.within && node_within z x;
      held = s.held && held_by c x;
      tight = s.tight && held_at_l1 c x;
      recons = s.recons || is_recons x.opmode;
    }

-- the changes: none; "all held by c become EXP"; "nodes still held by c get their old lmode", of nodes 1 to x; "redundant nodes go to L0"; a tick
abbrev pub keep : Change
keep = Keep

abbrev pub expire : ℕ → Change
expire c = Expire c

abbrev pub restore : ℕ → ℕ → NodeSet → Change
restore x c expired = Restore x c expired

abbrev pub weaken : ℕ → ℕ → Change
weaken k c = Weaken k c

abbrev pub tick : Change
tick = Tick

-- "Weaken c: needs all n held, none RECONS": a node that is not as it needs stays
abbrev pub weakened_for : ℕ → Node → Node
weakened_for c x = cond (is_recons x.opmode || not (held_by c x)) x (weakened_by c x)

-- a tick: a record with more entries than it may have, which no call lets by, stays
abbrev pub ticked_within : Node → Node
ticked_within x = cond (ltb entry_limit (length x.entries)) x (ticked x)

-- what becomes of the node at place i, place 0 that of node 1
abbrev pub changed_at : Change → ℕ → Node → Node
changed_at Keep i node = node
changed_at (Expire c) i node = expired_for c node
changed_at (Restore x c expired) i node = given_back c (old_lmode (has (node_set_of expired) (suc i))) node
changed_at (Weaken k c) i node = weakened_for c node
changed_at Tick i node = ticked_within node

-- the places, of n, that it touches: from the first to before the end
abbrev pub first_of : Change → ℕ → ℕ
first_of Keep n = 0
first_of (Expire c) n = 0
first_of (Restore x c expired) n = 0
first_of (Weaken k c) n = min k n
first_of Tick n = 0

abbrev pub end_of : Change → ℕ → ℕ
end_of Keep n = 0
end_of (Expire c) n = n
end_of (Restore x c expired) n = min x n
end_of (Weaken k c) n = n
end_of Tick n = n

-- what becomes of the nodes of a stripe
abbrev pub applied : Change → List Node → List Node
applied Keep nodes = nodes
applied (Expire c) nodes = map (expired_for c) nodes
applied (Restore x c expired) nodes = restored c (old_lmodes x expired) nodes
applied (Weaken k c) nodes = take k nodes ++ map (weakened_for c) (drop k nodes)
applied Tick nodes = map ticked_within nodes
