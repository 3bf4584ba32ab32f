-- What the kernel keeps while it works. Its contract is Combine.antt; these only its own functions need. Assumes nothing.
use Rattle.std.specs.Prelude.{cond, List, ◌≡◌, ℕ, zero, suc, ◌+◌, ◌-◌, ◌*◌, ◌/◌, ◌%◌, ◌^◌, ◌≤◌, ◌<◌, ltb, length, get_or}
use Rattle.std.specs.Int.Bits.{bit_xor}
use Rattle.gf256.specs.Field.{double, product, sum}
use Rattle.kernel.specs.Combine.{nth, source_limit}
use Rattle.lanes.specs.Lanes.{lane, chosen}

-- byte p of the sum of the blocks that begin at the starts, each times its weight
abbrev pub combined : List ℕ → List ℕ → List ℕ → ℕ → ℕ
combined t starts weights p = sum (length starts) (λ q. product (nth weights q) (get_or t (nth starts q + p) 0))

-- a whole list of sources, of n bytes each
pub record Sources (n : ℕ) (t starts : List ℕ) : Type 0 where
  pub twelve : length starts ≡ source_limit
  pub fits : (q : ℕ) → q < source_limit → get_or starts q 0 + n ≤ length t

-- byte i of the sums of the group that g groups stand before: of the n bytes of its four sources from place p on
unfoldable pub group_sum : List ℕ → List ℕ → ℕ → ℕ → ℕ → ℕ → ℕ
group_sum t starts p n g i =
    chosen (i / 16) (lane t (get_or starts (4 * g) 0 + p) n (i % 16)) (lane t (get_or starts (4 * g + 1) 0 + p) n (i % 16))
    (lane t (get_or starts (4 * g + 2) 0 + p) n (i % 16)) (lane t (get_or starts (4 * g + 3) 0 + p) n (i % 16))

-- s has the sums of the first g groups, and of c times 16 bytes of the next: of the n bytes of the sources from place p on
pub record Summed (t starts : List ℕ) (p n g c : ℕ) (s : List ℕ) : Type 0 where
  pub size : length s ≡ 12288
  pub at : (u h i : ℕ) → 16 * u < n → h < 3 → i < 256 → 16 * h + u < 16 * g + c
      → get_or s (u * 768 + (h * 256 + i)) 0 ≡ group_sum t starts (p + 16 * u) (n - 16 * u) h i

-- s has the sums of a tile, the n bytes of the sources from place p on: of 16 bytes after the other, of one group after the other
pub record Prepared (t starts : List ℕ) (p n : ℕ) (s : List ℕ) : Type 0 where
  pub size : length s ≡ 12288
  pub at : (c g v l : ℕ) → 16 * c + l < n → g < 3 → v < 16 → l < 16
      → get_or s (c * 768 + (g * 256 + (16 * v + l))) 0 ≡ group_sum t starts (p + 16 * c) (n - 16 * c) g (16 * v + l)

-- the first sum of each group, which the bits of no weight choose, is 0: at place i, and at the n bytes of a tile
pub record FirstZero (s : List ℕ) (i : ℕ) : Type 0 where
  pub at : (g : ℕ) → g < 3 → get_or s (256 * g + i) 0 ≡ 0

pub record Zeroed (n : ℕ) (s : List ℕ) : Type 0 where
  pub at : (i : ℕ) → i < n → FirstZero s (i / 16 * 768 + i % 16)

-- the n lowest bits of w, each a digit in base 16
unfoldable pub spread : ℕ → ℕ → ℕ
spread zero w = 0
spread (suc n) w = w % 2 + 16 * spread n (w / 2)

-- digit h says which sum of a group of four the bits h of its weights choose
unfoldable pub packed : ℕ → ℕ → ℕ → ℕ → ℕ
packed a b c d = spread 8 a + 2 * spread 8 b + 4 * spread 8 c + 8 * spread 8 d

-- where that sum stands
unfoldable pub place : ℕ → ℕ → ℕ → ℕ
place x h g = x / 2 ^ (4 * h) % 16 * 16 + 256 * g

-- one bit on: doubled, plus the three sums that bit h chooses
unfoldable pub stepped : List ℕ → ℕ → ℕ → ℕ → ℕ → ℕ → ℕ → ℕ
stepped s x y z i h above =
    bit_xor (bit_xor (bit_xor (double above) (get_or s (place x h 0 + i) 0)) (get_or s (place y h 1 + i) 0)) (get_or s (place z h 2 + i) 0)

-- the n lowest bits, from the highest of them down, after the sum of those above
unfoldable pub down : List ℕ → ℕ → ℕ → ℕ → ℕ → ℕ → ℕ → ℕ
down s x y z i zero above = above
down s x y z i (suc n) above = down s x y z i n (stepped s x y z i n above)

-- out, of n bytes, has its first c sixteens, the sums of the first of which begin at e: by the m lowest bits
abbrev pub Lowest : ℕ → List ℕ → ℕ → ℕ → ℕ → ℕ → ℕ → ℕ → List ℕ → Type 0
Lowest m s x y z e n c out =
    (length out ≡ n) × ((i : ℕ) → i < 16 * c → get_or out i 0 ≡ down s x y z (e + (i / 16 * 768 + i % 16)) m 0)

-- by all bits: each byte whose first sums are 0
abbrev pub Sixteens : List ℕ → ℕ → ℕ → ℕ → ℕ → ℕ → ℕ → List ℕ → Type 0
Sixteens s x y z e n c out =
    (length out ≡ n) × ((i : ℕ) → i < 16 * c → FirstZero s (e + (i / 16 * 768 + i % 16)) → get_or out i 0 ≡ down s x y z (e + (i / 16 * 768 + i % 16)) 8 0)

-- the n bytes from place p on of the first j of m blocks of b bytes are there, and the bytes of all blocks before place p are as they were
pub record Filled (m b p n : ℕ) (s plan old : List ℕ) (j : ℕ) (out : List ℕ) : Type 0 where
  pub size : length out ≡ m * b
  pub before : (u i : ℕ) → u < m → i < p → get_or out (u * b + i) 0 ≡ get_or old (u * b + i) 0
  pub done : (u i : ℕ) → u < j → i < n
      → get_or out (u * b + (p + i)) 0 ≡ down s (get_or plan (3 * u) 0) (get_or plan (3 * u + 1) 0) (get_or plan (3 * u + 2) 0) (i / 16 * 768 + i % 16) 8 0

-- where the block of the qth of the nodes starts, q from 0, and 0 past the last node
unfoldable pub start_of : List ℕ → ℕ → ℕ → ℕ
start_of nodes b q = cond (ltb q (length nodes)) ((get_or nodes q 0 - 1) * b) 0
