-- Sixteen bytes at a time, and the sums of four bytes. Only the kernel needs these. Assumes nothing.
use Rattle.std.specs.Prelude.{cond, List, ℕ, ◌+◌, ◌*◌, ◌/◌, ◌%◌, ltb, get_or}
use Rattle.std.specs.Int.Bits.{bit_xor}

-- byte l of the n bytes of t from a on, and 0 after them
unfoldable pub lane : List ℕ → ℕ → ℕ → ℕ → ℕ
lane t a n l = cond (ltb l n) (get_or t (a + l) 0) 0

-- the sum of those of the four numbers that the bits of v choose
unfoldable pub chosen : ℕ → ℕ → ℕ → ℕ → ℕ → ℕ
chosen v a b c d = bit_xor (bit_xor (v % 2 * a) (v / 2 % 2 * b)) (bit_xor (v / 4 % 2 * c) (v / 8 % 2 * d))
