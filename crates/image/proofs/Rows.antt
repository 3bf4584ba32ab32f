-- Parts of known lengths one after the other: what stands where each begins. Assumes nothing.
use mathlib.Core.Path.{◌≡◌, refl, ap, ◌∙◌}
use mathlib.Core.List.{List, [], ◌∷◌, ◌++◌}
use Prim.Native.Nat.{ℕ, zero, suc, ◌+◌, ◌<◌}
use native.Mathlib.Nat.{le_of_suc-le-suc, zero-add, suc-add}
use native.Mathlib.Omega.{arith}
use lib.ListN.{length, get_or, drop, length-append}
use Rattle.octets.specs.Octets.{piece}
use Rattle.octets.proofs.Pieces.{piece_then, piece-end}

abbrev pub flat : List (List ℕ) → List ℕ
flat [] = []
flat (p ∷ ps) = p ++ flat ps

-- where part i begins
abbrev pub before : ℕ → List (List ℕ) → ℕ
before zero ps = 0
before (suc i) [] = 0
before (suc i) (p ∷ ps) = length p + before i ps

-- past the first part
past : (p rest : List ℕ) (at : ℕ) → drop (length p + at) (p ++ rest) ≡ drop at rest
past [] rest at = rw (zero-add at)
past (x ∷ p) rest at = rw (suc-add (length p) at) (past p rest at)

part-flat : (ps : List (List ℕ)) (i : ℕ) → i < length ps → piece (length (get_or ps i [])) (before i ps) (flat ps) ≡ get_or ps i []
unfolding piece
part-flat [] i l = absurd (omega arith)
part-flat (p ∷ ps) zero l = piece_then (length p) 0 p (flat ps) (omega arith) ∙ piece-end (length p) 0 [] p refl refl
part-flat (p ∷ ps) (suc i) l = rw (past p (flat ps) (before i ps)) (part-flat ps i (le_of_suc-le-suc l))

-- the same with the length and the place as they are known elsewhere
pub part_at : (w at i : ℕ) (ps : List (List ℕ)) → i < length ps → length (get_or ps i []) ≡ w → before i ps ≡ at → piece w at (flat ps) ≡ get_or ps i []
part_at w at i ps l e q = rw (← e, ← q) (part-flat ps i l)

-- all that stands before the end
pub length-flat : (ps : List (List ℕ)) → length (flat ps) ≡ before (length ps) ps
length-flat [] = refl
length-flat (p ∷ ps) = length-append p (flat ps) ∙ ap (λ k. length p + k) (length-flat ps)
