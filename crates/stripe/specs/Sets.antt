-- What the functions on the set of a pick say of their parts. Assumes nothing.
use Rattle.std.specs.Prelude.{Bool, cond, ◌&&◌, ◌||◌, not, List, [], ◌≡◌, ℕ, suc, ◌≤◌, ◌<◌, leb, ltb, get_or}
use Rattle.code.specs.Decode.{NodeSet, has, size}
use Rattle.machine.specs.Stripe.{node_at}
use Rattle.basics.specs.Lists.{some_of}
use Rattle.machine.specs.Rebuild.{f, at_position, same_ids, besides}
use Rattle.entries.specs.declared.WriteId.{WriteId}
use Rattle.records.specs.declared.Sizes.{Sizes}
use Rattle.records.specs.Node.{Node, is_norm, is_recons, is_init}
use Rattle.records.specs.Sizes.{node_limit}
use Rattle.stripe.specs.declared.nodes.Nodes.{Nodes}
use Rattle.entries.specs.declared.Few.{Few}
use Rattle.entries.specs.View.{ids_of}
use Rattle.stripe.specs.declared.sets.Recents.{Recents}
use Rattle.stripe.specs.View.{nodes_of, Counted}

-- node j beside a redundant member, by the recent ids of both
abbrev pub fits_beside : ℕ → ℕ → List WriteId → List WriteId → Bool
fits_beside k j own theirs = same_ids own (cond (leb j k) (at_position j theirs) theirs)

-- node j in the set of an unfinished rebuild
abbrev pub is_resumed : List Node → ℕ → Bool
is_resumed nodes j =
    is_recons (node_at nodes j).opmode || (not (is_init (node_at nodes j).opmode) && some_of (λ x. has x.rset j) nodes)

-- the best set so far, or the one with the redundant node r
abbrev pub larger : Sizes → List Node → ℕ → NodeSet → NodeSet
larger z nodes r best = cond (is_norm (node_at nodes r).opmode && ltb (size best) (size (besides z nodes r))) (besides z nodes r) best

-- r has the recent ids of each of the n nodes
abbrev pub blank_ids : Few WriteId 16
blank_ids = record { items = []; count = 0 }

abbrev pub ids_at : Recents → ℕ → Few WriteId 16
ids_at r i = get_or r.items i blank_ids

pub record Knows (n : ℕ) (x : Nodes) (r : Recents) : Type 0 where
  pub nodes : n ≤ node_limit
  pub counted : Counted n x
  pub ids : (i : ℕ) → i < n → ids_of (ids_at r i) ≡ f (nodes_of n x) (suc i)
