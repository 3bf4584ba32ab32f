-- The blocks of the code as the invariant has them: a block is a byte at each place, and a byte is a number with its bound, so that the laws of the
-- code hold of every block. Assumes nothing.
use mathlib.Core.Path.{◌≡◌, fun_ext}
use mathlib.Core.HLevel.{is_prop→PathP}
use mathlib.Core.Bool.{cond, ◌&&◌}
use mathlib.Core.List.{List}
use Prim.Native.Nat.{ℕ, zero, suc, ◌*◌, ◌%◌, ◌<◌}
use native.Mathlib.Bridge.{le_prop}
use native.Mathlib.Omega.{arith}
use lib.Bits.{bit_xor}
use lib.Dec.{leb, ltb}
use lib.ListN.{get_or}
use Rattle.gf256.specs.Field.{product}
use Rattle.blocks.specs.Blocks.{part}
use Rattle.code.specs.Code.{sum, coefficient}
use Rattle.code.specs.Decode.{lowest, recovered}
use Rattle.records.specs.declared.Sizes.{Sizes}
use Rattle.machine.proofs.Columns.{Ops}

pub record Byte : Type 0 where
  pub val : ℕ
  pub small : val < 256

pub byte-eq : (a b : Byte) → a.val ≡ b.val → a ≡ b
byte-eq a b e = λ i. record { val = e i; small = is_prop→PathP (λ i. e i < 256) (λ i. le_prop) a.small b.small i }

unfoldable pub byte_of : ℕ → Byte
byte_of x = record { val = x % 256; small = omega arith }

abbrev pub Block : Type 0
Block = ℕ → Byte

pub block-eq : (x y : Block) → ((p : ℕ) → (x p).val ≡ (y p).val) → x ≡ y
block-eq x y h = fun_ext (λ p. byte-eq (x p) (y p) (h p))

abbrev pub zero_block : Block
zero_block p = byte_of 0

-- the first b bytes of a list as a block
unfoldable pub view : ℕ → List ℕ → Block
view b l p = cond (ltb p b) (byte_of (get_or l p 0)) (byte_of 0)

-- block j of a table of blocks of b bytes
unfoldable pub block_of : ℕ → List ℕ → ℕ → Block
block_of b t zero = zero_block
block_of b t (suc j) = view b (part (j * b) b t)

-- the code at the sizes z
abbrev pub ops : Sizes → Ops
ops z =
    record {
      B = Block;
      k = z.k;
      n = z.n;
      zeroes = zero_block;
      diff = λ v o p. byte_of (bit_xor (v p).val (o p).val);
      mul_add = λ j i x d p. byte_of (bit_xor (x p).val (product (coefficient j i) (d p).val));
      parity = λ j x p. byte_of (sum z.k (λ i. product (coefficient j i) (x i p).val));
      decode = λ w x j. cond (leb 1 j && leb j z.n) (λ p. byte_of (recovered z.k (lowest w) (λ q. (x (lowest w q) p).val) j)) zero_block;
    }
