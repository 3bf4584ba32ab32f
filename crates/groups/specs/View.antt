-- How the code's groups are seen as their sizes. Assumes nothing.
use Rattle.std.specs.Prelude.{cond, ◌&&◌, List, [], ◌∷◌, ◌≡◌, ℕ, zero, suc, ◌+◌, ◌-◌, ◌*◌, ◌/◌, ◌%◌, ◌^◌, ◌≤◌, eqb, leb, ltb, get_or}
use Rattle.basics.specs.Lists.{every_of}
use Rattle.groups.specs.declared.Groups.{Groups}
use Rattle.groups.specs.Groups.{total, groups_fit}

-- the sizes by the lowest w bits of `ends`, a bit for each node: 1 if it is the last of its group; `run` nodes of the first group stand before them
unfoldable pub sizes_from : ℕ → ℕ → ℕ → List ℕ
sizes_from zero ends run = []
sizes_from (suc w) ends run = cond (eqb (ends % 2) 1) ((run + 1) ∷ sizes_from w (ends / 2) 0) (sizes_from w (ends / 2) (run + 1))

-- eight groups of one node, which no stripe has: what stands for sizes that no stripe can have
abbrev pub impossible : List ℕ
impossible = 1 ∷ 1 ∷ 1 ∷ 1 ∷ 1 ∷ 1 ∷ 1 ∷ 1 ∷ []

-- a number of more than eight bits has no meaning
unfoldable pub group_sizes : Groups → List ℕ
group_sizes g = cond (ltb g.ends 256) (sizes_from 8 g.ends 0) impossible

-- the bits for groups of these sizes, up to the first size that is 0
unfoldable pub ends_of : List ℕ → ℕ
ends_of [] = 0
ends_of (size ∷ sizes) = cond (eqb size 0) 0 (2 ^ (size - 1) * (1 + 2 * ends_of sizes))

abbrev pub groups_of : List ℕ → Groups
groups_of sizes = record { ends = ends_of sizes }

-- all nodes in one group; no group for more than eight nodes
abbrev pub one_group : ℕ → Groups
one_group size = groups_of (cond (leb size 8) (size ∷ []) [])

-- the sizes in six places, 0 at each place past the last
abbrev pub places : List ℕ → List ℕ
places sizes =
    get_or sizes 0 0 ∷ get_or sizes 1 0 ∷ get_or sizes 2 0 ∷ get_or sizes 3 0 ∷ get_or sizes 4 0 ∷ get_or sizes 5 0 ∷ []

-- the sizes as they are kept
unfoldable pub kept : List ℕ → List ℕ
kept sizes = cond (every_of (leb 1) sizes && leb (total sizes) 8) sizes impossible

-- so kept they are the groups of as many redundant nodes as a stripe can have exactly if they were before. Proved in proofs/Kept
abbrev pub KeptFits : Type 0
KeptFits = (redundant : ℕ) (sizes : List ℕ) → redundant ≤ 8 → groups_fit redundant (kept sizes) ≡ groups_fit redundant sizes

-- one group has the size given, for as many nodes as a stripe can have. Proved in proofs/Ends
abbrev pub OneSizes : Type 0
OneSizes = (size : ℕ) → 1 ≤ size → size ≤ 8 → group_sizes (one_group size) ≡ size ∷ []
