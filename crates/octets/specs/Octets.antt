-- Numbers and items as bytes: a number low byte first, items one after the other, what stands at a place. Assumes nothing.
use Rattle.std.specs.Prelude.{List, [], ◌∷◌, ◌++◌, ◌≡◌, ℕ, zero, suc, ◌+◌, ◌*◌, ◌/◌, ◌%◌, length, take, drop, get_or}

-- n in w bytes, the low byte first
abbrev pub low_first : ℕ → ℕ → List ℕ
low_first zero n = []
low_first (suc w) n = n % 256 ∷ low_first w (n / 256)

-- the number whose bytes are these, the low byte first
abbrev pub number : List ℕ → ℕ
number [] = 0
number (x ∷ xs) = x + 256 * number xs

-- a word: 4 bytes. The one at place `at`
abbrev pub word_bytes : ℕ → List ℕ
word_bytes n = low_first 4 n

abbrev pub word_at : List ℕ → ℕ → ℕ
word_at b at = number (get_or b at 0 ∷ get_or b (at + 1) 0 ∷ get_or b (at + 2) 0 ∷ get_or b (at + 3) 0 ∷ [])

-- f 0, f 1, .. f (n − 1), one after the other
unfoldable pub joined : ℕ → (ℕ → List ℕ) → List ℕ
joined zero f = []
joined (suc n) f = joined n f ++ f n

-- the w bytes from place `at` on; item i, from 0, where each has w
unfoldable pub piece : ℕ → ℕ → List ℕ → List ℕ
piece w at b = take w (drop at b)

abbrev pub item : ℕ → ℕ → List ℕ → List ℕ
item w i b = piece w (i * w) b

-- v put at place `at` of a buffer: what stands there after it, and before it. Nothing is said of what comes later
pub record Put (old : List ℕ) (at : ℕ) (v : List ℕ) (new : List ℕ) : Type 0 where
  pub filled : take (at + length v) new ≡ take at old ++ v
  pub long : length new ≡ length old
