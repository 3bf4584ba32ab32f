-- Change request C-16, "Adds by groups": the redundant nodes of a stripe in groups, given by their sizes. Assumes nothing.
use Rattle.std.specs.Prelude.{Bool, cond, ◌&&◌, List, [], ◌∷◌, ℕ, ◌+◌, ◌-◌, eqb, leb, length}
use Rattle.basics.specs.Lists.{every_of}

-- "A stripe gets 1 to 6 groups"
abbrev pub group_limit : ℕ
group_limit = 6

-- how many nodes groups of these sizes have
unfoldable pub total : List ℕ → ℕ
total [] = 0
total (size ∷ sizes) = size + total sizes

-- "given at the start as sizes that sum to n−k, each at least 1"; redundant is n−k
unfoldable pub groups_fit : ℕ → List ℕ → Bool
groups_fit redundant sizes =
    leb 1 (length sizes) && (leb (length sizes) group_limit && (every_of (leb 1) sizes && eqb (total sizes) redundant))

-- "in rising node order": how many redundant nodes are in "the earlier groups" of the jth redundant node, j from 1
unfoldable pub earlier_nodes : List ℕ → ℕ → ℕ
earlier_nodes [] j = 0
earlier_nodes (size ∷ sizes) j = cond (leb j size) 0 (size + earlier_nodes sizes (j - size))
