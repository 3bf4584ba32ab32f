-- The parts of `recover` as the code works them out. Assumes nothing.
use Rattle.std.specs.Prelude.{cond, List, ◌≢◌, ◌⊎◌, ◌≡◌, ℕ, zero, suc, ◌+◌, ◌-◌, ◌≤◌, ◌<◌, eqb, ltb, length, get_or}
use Rattle.std.specs.Int.Bits.{bit_xor}
use Rattle.gf256.specs.Field.{product, inverse, power}
use Rattle.blocks.specs.Blocks.{byte_at}
use Rattle.code.specs.Code.{data_limit, coefficient}
use Rattle.kernel.specs.Combine.{nth}
use Rattle.code.specs.Decode.{others, scale, recover, recovered}

-- node j is none of them
abbrev pub Apart : List ℕ → ℕ → Type 0
Apart nodes j = (l : ℕ) → l < length nodes → get_or nodes l 0 ≢ j

-- none of them but the qth, q from 1
abbrev pub ApartBut : List ℕ → ℕ → ℕ → Type 0
ApartBut nodes q j = (l : ℕ) → l < length nodes → suc l ≢ q → get_or nodes l 0 ≢ j

-- none of those after the first a up to the eth
abbrev pub ApartIn : List ℕ → ℕ → ℕ → ℕ → Type 0
ApartIn nodes a e j = (l : ℕ) → a ≤ l → l < e → get_or nodes l 0 ≢ j

-- each above the one before it
pub record Rising (nodes : List ℕ) : Type 0 where
  pub rises : (p q : ℕ) → p < q → q < length nodes → get_or nodes p 0 < get_or nodes q 0

-- the nodes that can hold data
pub record First (nodes : List ℕ) : Type 0 where
  pub twelve : length nodes ≡ data_limit
  pub at : (q : ℕ) → q < data_limit → get_or nodes q 0 ≡ suc q

-- the product of t plus the point of node s l, over the n places l after a
unfoldable pub factors : (ℕ → ℕ) → ℕ → ℕ → ℕ → ℕ
factors s a zero t = 1
factors s a (suc n) t = product (bit_xor t (s (a + suc n) - 1)) (factors s a n t)

-- the factor of `recover` that belongs to node s q alone
abbrev pub share : ℕ → (ℕ → ℕ) → ℕ → ℕ
share k s q = product (scale k (s q)) (inverse (others s k q (s q - 1)))

-- r is a logarithm of it, and small
pub record IsShare (nodes : List ℕ) (q r : ℕ) : Type 0 where
  pub power_is : power r ≡ share (length nodes) (nth nodes) q
  pub small : r ≤ 6108

-- r has that of each node
pub record Shares (nodes r : List ℕ) : Type 0 where
  pub at : (q : ℕ) → q < length nodes → IsShare nodes (suc q) (get_or r q 0)

-- byte p of node j's block, from the blocks of b bytes of the nodes
abbrev pub restored_byte : ℕ → List ℕ → List ℕ → ℕ → ℕ → ℕ
restored_byte b t nodes j p = recovered (length nodes) (nth nodes) (λ q. byte_at b t (nth nodes q) p) j

-- the weight in the redundant node j of the data node that i nodes stand before, and 0 past the k data nodes
unfoldable pub data_weight : ℕ → ℕ → ℕ → ℕ
data_weight k j i = cond (ltb i k) (coefficient j (suc i)) 0

-- the weight 1 at place q, and 0 at the others
unfoldable pub unit_weight : ℕ → ℕ → ℕ
unit_weight q i = cond (eqb i q) 1 0

-- the weights w of the nodes' blocks in that of node j: those of `recover`, or, where it is one of them, 1 at its place
pub record Lost (nodes : List ℕ) (j : ℕ) (w : ℕ → ℕ) : Type 0 where
  pub apart : Apart nodes j
  pub weights : (q : ℕ) → q < length nodes → w q ≡ recover (length nodes) (nth nodes) j (suc q)

pub record Held (nodes : List ℕ) (j : ℕ) (w : ℕ → ℕ) : Type 0 where
  pub place : ℕ
  pub among : place < length nodes
  pub node : get_or nodes place 0 ≡ j
  pub weights : (q : ℕ) → q < length nodes → w q ≡ unit_weight place q

pub record Recovers (nodes : List ℕ) (j : ℕ) (w : ℕ → ℕ) : Type 0 where
  pub tail : (q : ℕ) → length nodes ≤ q → q < data_limit → w q ≡ 0
  pub either : Lost nodes j w ⊎ Held nodes j w
