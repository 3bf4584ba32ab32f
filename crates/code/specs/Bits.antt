-- A set of nodes as a number: bit j − 1 is 1 if node j is in it. Assumes nothing.
use Rattle.std.specs.Prelude.{Bool, cond, List, [], ◌∷◌, ℕ, zero, suc, ◌+◌, ◌*◌, ◌/◌, ◌%◌, eqb}

-- the number whose bits are these, the lowest first
unfoldable pub bits_of : List Bool → ℕ
bits_of [] = 0
bits_of (b ∷ s) = cond b 1 0 + 2 * bits_of s

-- the lowest w bits of a number
unfoldable pub bits_from : ℕ → ℕ → List Bool
bits_from zero v = []
bits_from (suc w) v = eqb (v % 2) 1 ∷ bits_from w (v / 2)
