-- Document 01, "Records": "each block is a part of the block table that starts at its own offset". Blocks are numbered from 1.
-- Assumes nothing.
use Rattle.std.specs.Prelude.{Bool, cond, ◌&&◌, List, [], ◌∷◌, ◌++◌, ℕ, zero, suc, ◌+◌, ◌-◌, ◌*◌, ◌<◌, leb, length, get_or, take, drop}
use Rattle.std.specs.Int.Bits.{bit_xor}
use Rattle.basics.specs.Lists.{list_of}
use Rattle.gf256.specs.Field.{product}

-- the n bytes of t from a on
unfoldable pub part : ℕ → ℕ → List ℕ → List ℕ
part a n t = take n (drop a t)

-- t with p in the place of its n bytes from a on
unfoldable pub set_part : ℕ → ℕ → List ℕ → List ℕ → List ℕ
set_part a n p t = take a t ++ (p ++ drop n (drop a t))

-- block j of a table of blocks of b bytes, and the table with another block there
abbrev pub block : ℕ → ℕ → List ℕ → List ℕ
block b j t = part ((j - 1) * b) b t

abbrev pub set_block : ℕ → ℕ → List ℕ → List ℕ → List ℕ
set_block b j p t = set_part ((j - 1) * b) b p t

-- whether a table of so many bytes has block j; the block, or nothing where the table does not have it
abbrev pub has_block : ℕ → ℕ → ℕ → Bool
has_block b j len = leb 1 j && leb (j * b) len

abbrev pub block_in : ℕ → ℕ → List ℕ → List ℕ
block_in b j t = cond (has_block b j (length t)) (block b j t) []

-- byte p of block j, p from 0
unfoldable pub byte_at : ℕ → List ℕ → ℕ → ℕ → ℕ
byte_at b t j p = get_or t ((j - 1) * b + p) 0

-- the table of n blocks of b bytes that has byte f j p at place p of block j
unfoldable pub table : ℕ → ℕ → (ℕ → ℕ → ℕ) → List ℕ
table zero b f = []
table (suc n) b f = table n b f ++ list_of b (f (suc n))

-- f of the two bytes at each place; past the end of the second list the first as it is
unfoldable pub zip : (ℕ → ℕ → ℕ) → List ℕ → List ℕ → List ℕ
zip f [] ys = []
zip f (x ∷ xs) [] = x ∷ xs
zip f (x ∷ xs) (y ∷ ys) = f x y ∷ zip f xs ys

-- "Difference = value XOR old block"
abbrev pub difference : List ℕ → List ℕ → List ℕ
difference value old = zip bit_xor value old

-- "c(j,i) times the difference is added"
abbrev pub add_times : ℕ → List ℕ → List ℕ → List ℕ
add_times c d s = zip (λ x y. bit_xor x (product c y)) d s

-- every byte of the table is a byte
pub record Bytes (t : List ℕ) : Type 0 where
  pub small : (q : ℕ) → get_or t q 0 < 256
