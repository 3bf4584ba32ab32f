-- The lists that the calls on the whole stripe make, and the largest epoch. Assumes nothing.
use mathlib.Core.Path.{◌≡◌, refl, ap}
use mathlib.Core.Bool.{true, ◌||◌}
use mathlib.Core.List.{List, [], ◌∷◌}
use Prim.Native.Nat.{ℕ, zero, suc, ◌≤◌, ◌<◌}
use native.Mathlib.Omega.{arith}
use lib.ListN.{length, get_or}
use Rattle.basics.specs.Lists.{element_at}
use Rattle.basics.proofs.Tests.{and_both}
use Rattle.records.specs.declared.Lmode.{Lmode}
use Rattle.records.specs.Node.{Node, failed_node, given_back}
use Rattle.records.specs.Node as Node
use Rattle.records.specs.Client.{unl_or_exp}
use Rattle.machine.specs.Stripe.{node_at}
use Rattle.machine.specs.Rebuild.{restored, largest_epoch}

---- the lmodes given back
module _ (c : ℕ) where
  pub length-restored : (old : List Lmode) (nodes : List Node) → length (restored c old nodes) ≡ length nodes
  unfolding restored
  length-restored [] nodes = refl
  length-restored (l ∷ old) [] = refl
  length-restored (l ∷ old) (x ∷ nodes) = ap suc (length-restored old nodes)

  pub restored-first : (old : List Lmode) (nodes : List Node) (j : ℕ) → j < length old →
      get_or (restored c old nodes) j failed_node ≡ given_back c (get_or old j Lmode.Unl) (get_or nodes j failed_node)
  unfolding restored
  restored-first [] nodes j h = absurd (omega arith)
  restored-first (l ∷ old) [] j h = refl
  restored-first (l ∷ old) (x ∷ nodes) zero h = refl
  restored-first (l ∷ old) (x ∷ nodes) (suc j) h = restored-first old nodes j (omega arith)

  pub restored-rest : (old : List Lmode) (nodes : List Node) (j : ℕ) → length old ≤ j → get_or (restored c old nodes) j failed_node ≡ get_or nodes j failed_node
  unfolding restored
  restored-rest [] nodes j h = refl
  restored-rest (l ∷ old) [] j h = refl
  restored-rest (l ∷ old) (x ∷ nodes) zero h = absurd (omega arith)
  restored-rest (l ∷ old) (x ∷ nodes) (suc j) h = restored-rest old nodes j (omega arith)

pub unl-or-exp : (old : List Lmode) → unl_or_exp old ≡ true → (j : ℕ) → (Node.is_unl (get_or old j Lmode.Unl) || Node.is_exp (get_or old j Lmode.Unl)) ≡ true
unfolding unl_or_exp
unl-or-exp [] e j = refl
unl-or-exp (l ∷ old) e zero = (and_both (Node.is_unl l || Node.is_exp l) (unl_or_exp old) e).0
unl-or-exp (l ∷ old) e (suc j) = unl-or-exp old (and_both (Node.is_unl l || Node.is_exp l) (unl_or_exp old) e).1 j

---- the largest epoch
pub epoch-at-most : (nodes : List Node) (j : ℕ) → (node_at nodes j).epoch.0 ≤ largest_epoch nodes
unfolding largest_epoch element_at
epoch-at-most nodes zero = omega arith
epoch-at-most [] (suc j) = omega arith
epoch-at-most (x ∷ nodes) (suc zero) = omega arith
epoch-at-most (x ∷ nodes) (suc (suc j)) = let a = epoch-at-most nodes (suc j) in omega arith
