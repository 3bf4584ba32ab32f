-- `coding::weights::data_nodes` meets its contract: computed. Assumes nothing.
use mathlib.Core.List.{List, [], ◌∷◌}
use mathlib.Core.Path.{refl}
use Prim.Native.Nat.{ℕ, suc}
use lib.ListN.{get_or}
use Rattle.basics.proofs.Computed.{every, same-below}
use Rattle.coding.proofs.weights.data_nodes.Goals as goal

abbrev listed : List ℕ
listed = 1 ∷ 2 ∷ 3 ∷ 4 ∷ 5 ∷ 6 ∷ 7 ∷ 8 ∷ 9 ∷ 10 ∷ 11 ∷ 12 ∷ []

pub returns : goal.returns
unfolding every
returns c = record { twelve = refl; at = same-below 12 (λ q. get_or listed q 0) suc refl }
