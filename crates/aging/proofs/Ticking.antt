-- A tick's test by what was seen of all nodes, and the nodes after it. Assumes nothing.
use mathlib.Core.Path.{◌≡◌, refl, ap₂}
use mathlib.Core.Bool.{Bool, true, false, ◌&&◌}
use mathlib.Core.List.{List, [], ◌∷◌, map}
use Prim.Native.Nat.{ℕ, ◌≤◌}
use lib.Dec.{eqb}
use lib.ListN.{length}
use borrow.Author.Tests.{leb-true, le-ltb}
use Rattle.basics.specs.Lists.{every_of}
use Rattle.basics.proofs.Tests.{and_left, and_right, and_both}
use Rattle.entries.specs.Entries.{entry_limit}
use Rattle.records.specs.declared.Sizes.{Sizes}
use Rattle.records.specs.Sizes.{sizes_within}
use Rattle.records.specs.Node.{Node, ticked, node_within}
use Rattle.machine.specs.Stripe.{nodes_fit}
use Rattle.stripe.specs.declared.seen.Seen.{Seen}
use Rattle.stripe.specs.Seen.{Sees, ticked_within}

-- the test, by what was seen, is the machine's
pub limits-seen : {z : Sizes} {c : ℕ} {nodes : List Node} {s : Seen} → (sizes_within z ≡ true → Sees z c nodes s) →
    (sizes_within z && s.within) ≡ (sizes_within z && nodes_fit z nodes)
limits-seen {z} {c} {nodes} {s} sees = by (sizes_within z) refl
  where
    by : (b : Bool) → sizes_within z ≡ b → (b && s.within) ≡ (b && nodes_fit z nodes)
    by true e = (sees e).within
    by false e = refl

-- a record within the limits has at most 16 entries
few : (z : Sizes) (x : Node) → node_within z x ≡ true → length x.entries ≤ entry_limit
unfolding node_within
few z x e = search (and_left, and_right, leb-true)

one : (z : Sizes) (x : Node) → node_within z x ≡ true → ticked_within x ≡ ticked x
one z x e = rw (le-ltb entry_limit (length x.entries) (few z x e))

all : (z : Sizes) (nodes : List Node) → every_of (node_within z) nodes ≡ true → map ticked_within nodes ≡ map ticked nodes
unfolding every_of
all z [] e = refl
all z (x ∷ nodes) e =
    let (first, rest) = and_both (node_within z x) (every_of (node_within z) nodes) e in ap₂ ◌∷◌ (one z x first) (all z nodes rest)

pub nodes-ticked : (z : Sizes) (nodes : List Node) → nodes_fit z nodes ≡ true → map ticked_within nodes ≡ map ticked nodes
nodes-ticked z nodes e = all z nodes (and_right (eqb (length nodes) z.n) (every_of (node_within z) nodes) e)
