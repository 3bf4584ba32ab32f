-- Document 01, "Field and code": "Decoding is given a set of nodes and uses its k lowest members". The bytes of any node from those of k nodes,
-- by interpolation: node j has the point j − 1, and `scale j` times its byte is the value there of one polynomial of degree below k.
-- That these are the only bytes of a codeword that agrees with the k nodes is proved (proofs/Recover.antt). Assumes nothing.
use Rattle.std.specs.Prelude.{Bool, true, false, cond, ◌&&◌, ◌||◌, not, List, [], ◌∷◌, ℕ, zero, suc, ◌-◌, eqb, length, get_or}
use Rattle.std.specs.Int.Bits.{bit_xor}
use Rattle.gf256.specs.Field.{product, inverse}
use Rattle.code.specs.Code.{node_limit, sum, row}
use Rattle.basics.specs.Lists.{list_of}
use Rattle.blocks.specs.Blocks.{byte_at, table}

-- a set of nodes: place j − 1 says whether node j is in it, for as many nodes as a stripe has at most
abbrev pub NodeSet : Type 0
NodeSet = List Bool

unfoldable pub has : NodeSet → ℕ → Bool
has s zero = false
has s (suc j) = get_or s j false

-- the nodes that p holds of
unfoldable pub set_of : (ℕ → Bool) → NodeSet
set_of p = list_of node_limit (λ i. p (suc i))

abbrev pub no_nodes : NodeSet
no_nodes = set_of (λ j. false)

-- the set with node j, and without it
abbrev pub including : ℕ → NodeSet → NodeSet
including j s = set_of (λ l. eqb l j || has s l)

abbrev pub excluding : ℕ → NodeSet → NodeSet
excluding j s = set_of (λ l. not (eqb l j) && has s l)

-- the members in rising order, the first place being that of node j
unfoldable pub members_from : ℕ → NodeSet → List ℕ
members_from j [] = []
members_from j (b ∷ s) = cond b (j ∷ members_from (suc j) s) (members_from (suc j) s)

abbrev pub members : NodeSet → List ℕ
members s = members_from 1 s

abbrev pub size : NodeSet → ℕ
size s = length (members s)

-- the qth lowest member, q from 1
abbrev pub lowest : NodeSet → ℕ → ℕ
lowest s q = get_or (members s) (q - 1) 0

-- a set of nodes among 1 to n
unfoldable pub set_within : ℕ → NodeSet → Bool
set_within n [] = true
set_within zero (b ∷ s) = not b && set_within zero s
set_within (suc n) (b ∷ s) = set_within n s

-- the product of t plus the point of node s l, over l = 1 to k but q
unfoldable pub others : (ℕ → ℕ) → ℕ → ℕ → ℕ → ℕ
others s zero q t = 1
others s (suc k) q t = cond (eqb q (suc k)) (others s k q t) (product (bit_xor t (s (suc k) - 1)) (others s k q t))

unfoldable pub scale : ℕ → ℕ → ℕ
scale k j = others (λ i. i) k j (j - 1)

-- what the byte of node s q counts for in the byte of node j
unfoldable pub recover : ℕ → (ℕ → ℕ) → ℕ → ℕ → ℕ
recover k s j q =
    product (product (scale k (s q)) (inverse (others s k q (s q - 1)))) (product (others s k q (j - 1)) (inverse (scale k j)))

-- the byte of node j from the bytes y q of the nodes s q, q = 1 to k
unfoldable pub recovered : ℕ → (ℕ → ℕ) → (ℕ → ℕ) → ℕ → ℕ
recovered k s y j = sum k (λ q. product (recover k s j q) (y q))

-- the first m blocks of the codeword that agrees with the table t at the k lowest members: m = k decodes, m = n rebuilds
unfoldable pub recovered_table : ℕ → ℕ → ℕ → NodeSet → List ℕ → List ℕ
recovered_table k m b set t = table m b (λ j p. recovered k (lowest set) (λ q. byte_at b t (lowest set q) p) j)

-- p holds of 1 to k
unfoldable pub each : ℕ → (ℕ → Bool) → Bool
each zero p = true
each (suc k) p = each k p && p (suc k)

-- whether the rows of the k nodes have an inverse: the rows are carried to those of the unit matrix
unfoldable pub invertible : ℕ → (ℕ → ℕ) → Bool
invertible k s = each k (λ i. each k (λ l. eqb (sum k (λ q. product (recover k s i q) (row k (s q) l))) (cond (eqb i l) 1 0)))
