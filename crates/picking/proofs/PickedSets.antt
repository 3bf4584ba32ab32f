-- The set of a pick: what it is decoded from is there, and its rows have an inverse. Assumes nothing.
use mathlib.Core.Path.{◌≡◌}
use mathlib.Core.Logic.{◌⊎◌, inl, inr}
use mathlib.Core.Bool.{true, false, ◌&&◌, not}
use mathlib.Core.List.{List}
use Prim.Native.Nat.{ℕ, zero, suc, ◌+◌, ◌-◌, ◌*◌, ◌≤◌, ◌<◌}
use native.Mathlib.Decide.{dec_lt}
use native.Mathlib.Nat.{mul-le-mul_right}
use native.Mathlib.Omega.{arith}
use lib.ListN.{length, get_or-eq_default}
use borrow.Author.Tests.{not-true}
use Rattle.code.specs.Decode.{has, size, lowest, invertible}
use Rattle.code.proofs.Invertible.{invertible-chosen}
use Rattle.code.proofs.NodeSets.{set_of-has, lowest-chosen}
use Rattle.basics.specs.Lists.{element_at, some_of}
use Rattle.machine.specs.Stripe.{node_at}
use Rattle.machine.specs.Rebuild.{some_recons, resumed, largest, picked_set, count_init, needed_size}
use Rattle.basics.proofs.Tests.{clash, and_both, or-one, cond_ind}
use Rattle.machine.proofs.Frame.{norm-live, recons-live}
use Rattle.machine.proofs.Largest.{the-largest}
use Rattle.records.specs.declared.Sizes.{Sizes}
use Rattle.records.specs.Node.{Node, failed_node, is_recons, is_init}

-- a node that is not there counts as failed, so it is INIT
live-there : (nodes : List Node) (j : ℕ) → is_init (node_at nodes j).opmode ≡ false → j ≤ length nodes
unfolding element_at
live-there nodes zero e = omega arith
live-there nodes (suc j) e = by (dec_lt j (length nodes))
  where
    by : Dec (j < length nodes) → suc j ≤ length nodes
    by (yes h) = h
    by (no h) = let past : length nodes ≤ j = omega arith in clash (rw (get_or-eq_default nodes failed_node past)) e

module _ (z : Sizes) (nodes : List Node) (count : length nodes ≡ z.n) (few : z.n ≤ 18) where
  -- no member is INIT
  resumed-live : (j : ℕ) → has (resumed nodes) j ≡ true → is_init (node_at nodes j).opmode ≡ false
  resumed-live j e = by (or-one (is_recons (node_at nodes j).opmode) _ (set_of-has _ j e))
    where
      by : (is_recons (node_at nodes j).opmode ≡ true) ⊎ ((not (is_init (node_at nodes j).opmode) && some_of (λ x. has x.rset j) nodes) ≡ true)
          → is_init (node_at nodes j).opmode ≡ false
      by (inl t) = recons-live (node_at nodes j).opmode t
      by (inr t) = not-true (is_init (node_at nodes j).opmode) (and_both _ (some_of (λ x. has x.rset j) nodes) t).0

  picked-live : (j : ℕ) → has (picked_set z nodes) j ≡ true → is_init (node_at nodes j).opmode ≡ false
  picked-live =
      cond_ind (λ s. (j : ℕ) → has s j ≡ true → is_init (node_at nodes j).opmode ≡ false) (some_recons nodes) (resumed nodes) (largest z nodes (z.n - z.k))
      (λ t. resumed-live) (λ t j e. norm-live (node_at nodes j).opmode ((the-largest z nodes count few).consistent.norm j e))

  pub picked-node : (j : ℕ) → has (picked_set z nodes) j ≡ true → j ≤ z.n
  picked-node j e = omega (arith, count, live-there nodes j (picked-live j e))

  -- the table has the block of each member
  pub picked-held : (blocks : List ℕ) → length blocks ≡ z.n * z.b → (j : ℕ) → has (picked_set z nodes) j ≡ true → j * z.b ≤ length blocks
  picked-held blocks full j e = omega (arith, full, mul-le-mul_right z.b (picked-node j e))

  pub picked-invertible : z.k ≤ z.n → z.k ≤ size (picked_set z nodes) → invertible z.k (lowest (picked_set z nodes)) ≡ true
  picked-invertible kn enough =
      invertible-chosen z.k (lowest (picked_set z nodes)) (omega arith)
      (lowest-chosen z.k (picked_set z nodes) (λ j e. omega (arith, picked-node j e)) enough)

pub needed-least : (z : Sizes) (nodes : List Node) → z.k ≤ needed_size z nodes
needed-least z nodes =
    cond_ind (λ m. z.k ≤ m) (some_recons nodes) z.k (z.k + (z.failures - count_init nodes)) (λ t. omega arith) (λ t. omega arith)
