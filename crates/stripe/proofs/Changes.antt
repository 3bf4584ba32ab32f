-- The nodes of a stripe, place by place. Assumes nothing.
use mathlib.Core.Path.{◌≡◌, refl}
use mathlib.Core.List.{List, [], ◌∷◌, ◌++◌, map}
use Prim.Native.Nat.{ℕ, zero, suc, ◌≤◌, ◌<◌}
use native.Mathlib.Omega.{arith}
use lib.ListN.{length, get_or, take, drop}
use Rattle.basics.proofs.Lists.{get_or-list_of}
use Rattle.records.specs.Node.{Node, failed_node}
use Rattle.records.specs.View.{node_of}
use Rattle.stripe.specs.declared.nodes.Nodes.{Nodes}
use Rattle.stripe.specs.View.{record_at, nodes_of}

-- node p + 1, through the array
pub node-there : (n : ℕ) (x : Nodes) (p : ℕ) → p < n → get_or (nodes_of n x) p failed_node ≡ node_of (record_at x p)
node-there n x p h = get_or-list_of n (λ i. node_of (record_at x i)) p failed_node h

-- ---- the nodes after the first k

module _ (f : Node → Node) where
  pub after_first : (k : ℕ) (l : List Node) (p : ℕ) → p < k → get_or (take k l ++ map f (drop k l)) p failed_node ≡ get_or l p failed_node
  after_first zero l p h = absurd (omega arith)
  after_first (suc k) [] p h = refl
  after_first (suc k) (x ∷ l) zero h = refl
  after_first (suc k) (x ∷ l) (suc p) h = after_first k l p (omega arith)

  pub after-rest : (k : ℕ) (l : List Node) (p : ℕ) → k ≤ p → p < length l → get_or (take k l ++ map f (drop k l)) p failed_node ≡ f (get_or l p failed_node)
  after-rest k [] p h b = absurd (omega arith)
  after-rest zero (x ∷ l) zero h b = refl
  after-rest zero (x ∷ l) (suc p) h b = after-rest zero l p (omega arith) (omega arith)
  after-rest (suc k) (x ∷ l) zero h b = absurd (omega arith)
  after-rest (suc k) (x ∷ l) (suc p) h b = after-rest k l p (omega arith) (omega arith)
