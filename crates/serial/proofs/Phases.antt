-- The nodes that were EXP among those locked so far, as the code's set has them. Assumes nothing.
use mathlib.Core.Bool.{Bool, true, false}
use mathlib.Core.Path.{◌≡◌, refl, ◌∙◌}
use mathlib.Core.List.{[], ◌∷◌, map, map-append}
use Prim.Native.Nat.{ℕ, zero, suc}
use Rattle.basics.specs.Lists.{list_of}
use Rattle.code.specs.Decode.{has}
use Rattle.code.specs.View.{node_set_of}
use Rattle.code.specs.declared.nodes.NodeSet.{NodeSet}
use Rattle.records.specs.Node.{is_exp}
use Rattle.records.specs.View.{old_lmode, old_lmodes}

exp-back : (b : Bool) → is_exp (old_lmode b) ≡ b
exp-back true = refl
exp-back false = refl

pub expired-back : (x : ℕ) (expired : NodeSet) → map is_exp (old_lmodes x expired) ≡ list_of x (λ i. has (node_set_of expired) (suc i))
unfolding list_of
expired-back zero expired = refl
expired-back (suc x) expired =
    map-append is_exp (old_lmodes x expired) (old_lmode (has (node_set_of expired) (suc x)) ∷ [])
    ∙ rw (expired-back x expired, exp-back (has (node_set_of expired) (suc x)))
