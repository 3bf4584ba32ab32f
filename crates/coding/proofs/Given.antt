-- The nodes that decoding is given, one after another. Assumes nothing.
use mathlib.Core.Bool.{Bool, false, ◌||◌, or_assoc, or_comm}
use mathlib.Core.List.{List, [], ◌∷◌, ◌++◌}
use mathlib.Core.Path.{◌≡◌, sym, ap, ◌∙◌}
use Prim.Native.Nat.{ℕ, suc, ◌+◌, ◌≤◌, ◌<◌}
use native.Mathlib.Numerals.{add-one}
use native.Mathlib.Omega.{arith}
use lib.Dec.{eqb}
use lib.ListN.{length, get_or, take}
use lib.Seq.{take-suc, take_all}
use Rattle.basics.proofs.Lists.{list_of-cong}
use Rattle.code.specs.Decode.{set_of, including}
use Rattle.code.specs.Calls.{is_in, given_set}
use Rattle.code.proofs.Invertible.{eqb_comm}
use Rattle.code.proofs.NodeSets.{has-set_of}

-- ---- the set

is-in-last : (xs : List ℕ) (x j : ℕ) → is_in (xs ++ (x ∷ [])) j ≡ (is_in xs j || eqb x j)
unfolding is_in
is-in-last [] x j = or_comm (eqb x j) false
is-in-last (y ∷ xs) x j = rw (is_in, is-in-last xs x j) (sym (or_assoc (eqb y j) (is_in xs j) (eqb x j)))

-- one node more
pub given-next : (nodes : List ℕ) (i : ℕ) → i < length nodes
    → including (get_or nodes i 0) (given_set (take i nodes)) ≡ given_set (take (i + 1) nodes)
unfolding set_of
given-next nodes i l =
    list_of-cong 18 _ _
    (λ j lj.
    rw (add-one i, take-suc nodes i 0 l, has-set_of (is_in (take i nodes)) (suc j) (omega arith) (omega arith))
    (sym (is-in-last (take i nodes) (get_or nodes i 0) (suc j) ∙ turned (is_in (take i nodes) (suc j)) (get_or nodes i 0) (suc j))))
  where
    turned : (b : Bool) (x y : ℕ) → (b || eqb x y) ≡ (eqb y x || b)
    turned b x y = or_comm b (eqb x y) ∙ ap (λ e. e || b) (eqb_comm x y)

pub given-all : (nodes : List ℕ) (i : ℕ) → length nodes ≤ i → given_set (take i nodes) ≡ given_set nodes
given-all nodes i l = rw (take_all i nodes l)
