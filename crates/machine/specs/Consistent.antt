-- Document 01, "Pick c": which sets of nodes are consistent and which of them is taken, apart from how it is found. `f` and `largest` are those of
-- Rebuild.antt. The two statements at the end say that `largest` is the set taken, and that there is no other; proofs/Largest proves them.
-- Assumes nothing.
use Rattle.std.specs.Prelude.{true, List, ◌≡◌, ℕ, ◌-◌, ◌≤◌, ◌<◌, length}
use Rattle.code.specs.Decode.{NodeSet, has, size}
use Rattle.entries.specs.declared.WriteId.{WriteId}
use Rattle.entries.specs.Entries.{is_in}
use Rattle.records.specs.declared.Sizes.{Sizes}
use Rattle.records.specs.Node.{Node, is_norm}
use Rattle.records.specs.Sizes.{node_limit}
use Rattle.machine.specs.Stripe.{node_at}
use Rattle.machine.specs.Rebuild.{f, at_position, largest}

-- equal sets of ids: an id is in the one if and only if it is in the other
abbrev pub SameSet : List WriteId → List WriteId → Type 0
SameSet a b = (id : WriteId) → is_in id a ≡ is_in id b

-- "1 to k hold data, k+1 to n are redundant": r is a redundant member of the set
pub record Redundant (z : Sizes) (set : NodeSet) (r : ℕ) : Type 0 where
  pub member : has set r ≡ true
  pub beyond : z.k < r

-- "Consistent means":
pub record Consistent (z : Sizes) (nodes : List Node) (set : NodeSet) : Type 0 where
  -- "only NORM nodes". A node that is not there counts as failed, so these are among 1 to n
  pub norm : (j : ℕ) → has set j ≡ true → is_norm (node_at nodes j).opmode ≡ true
  -- "all redundant members have equal f"
  pub redundant : (q r : ℕ) → Redundant z set q → Redundant z set r → SameSet (f nodes q) (f nodes r)
  -- "each data member's f equals the ids of its position in each redundant member's f"
  pub position : (i r : ℕ) → has set i ≡ true → i ≤ z.k → Redundant z set r → SameSet (f nodes i) (at_position i (f nodes r))

-- "the all-data set": every member is a data node
abbrev pub AllData : Sizes → NodeSet → Type 0
AllData z set = (j : ℕ) → has set j ≡ true → j ≤ z.k

-- r is the lowest number that P holds of
pub record Lowest (P : ℕ → Type 0) (r : ℕ) : Type 0 where
  pub holds : P r
  pub least : (q : ℕ) → P q → r ≤ q

-- "a tie": another consistent set of the same size
pub record Tie (z : Sizes) (nodes : List Node) (set other : NodeSet) : Type 0 where
  pub consistent : Consistent z nodes other
  pub sizes : size other ≡ size set

pub record TheLargest (z : Sizes) (nodes : List Node) (set : NodeSet) : Type 0 where
  pub consistent : Consistent z nodes set
  -- "The largest is taken"
  pub largest : (other : NodeSet) → Consistent z nodes other → size other ≤ size set
  -- "on a tie the all-data set"
  pub data_first : (other : NodeSet) → Tie z nodes set other → AllData z other → AllData z set
  -- "then the one with the lowest redundant member"
  pub lowest_first : (other : NodeSet) → Tie z nodes set other → (q r : ℕ) → Lowest (Redundant z set) q → Lowest (Redundant z other) r → q ≤ r

-- `largest`, as Rebuild finds it among the candidates, is the set that the document takes
abbrev pub PicksTheLargest : Type 0
PicksTheLargest = (z : Sizes) (nodes : List Node) → length nodes ≡ z.n → z.n ≤ node_limit → TheLargest z nodes (largest z nodes (z.n - z.k))

-- and the document takes no other
abbrev pub OneLargest : Type 0
OneLargest =
    (z : Sizes) (nodes : List Node) → length nodes ≡ z.n → z.n ≤ node_limit → (set other : NodeSet) → TheLargest z nodes set → TheLargest z nodes other →
    (j : ℕ) → has set j ≡ has other j
