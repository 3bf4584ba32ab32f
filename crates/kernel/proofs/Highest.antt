-- The kernel's sums by bits (src/bits.rt): what the digits of the packed weights choose from the sums of a tile, added up from the highest bit
-- down, is the sum of the sources times their weights. Assumes nothing.
use mathlib.Core.List.{List}
use mathlib.Core.Path.{◌≡◌, refl, sym, ap, subst, ◌∙◌}
use Prim.Native.Nat.{ℕ, zero, suc, ◌+◌, ◌-◌, ◌*◌, ◌/◌, ◌%◌, ◌^◌, ◌≤◌, ◌<◌}
use native.Mathlib.Nat.{pow-suc, div-one, div-div-eq-div-mul, div-eq_of_lt, zero-mul, add-mul-mod_self_left}
use native.Mathlib.Omega.{arith}
use lib.Bits.{bit_xor}
use lib.ListN.{length, get_or}
use Rattle.gf256.specs.Field.{double, sum}
use Rattle.gf256.proofs.Xor.{low_bit, xors, xor_assoc, xor_zero_l}
use Rattle.blocks.specs.Blocks.{Bytes}
use Rattle.lanes.specs.Lanes.{lane, chosen}
use Rattle.lanes.proofs.Sixteen.{lane_in}
use Rattle.kernel.specs.Working.{combined, Prepared, FirstZero, Zeroed, group_sum, spread, packed, place, stepped, down}
use Rattle.kernel.proofs.Horner.{above, byte, bits, above-none, above-all, above-next}

-- ---- digits

-- four bits as a number
abbrev four : ℕ → ℕ → ℕ → ℕ → ℕ
four a b c d = a + 2 * b + 4 * c + 8 * d

digit : (h n a b c d : ℕ) → h < n
    → (spread n a + 2 * spread n b + 4 * spread n c + 8 * spread n d) / 2 ^ (4 * h) % 16
    ≡ four (a / 2 ^ h % 2) (b / 2 ^ h % 2) (c / 2 ^ h % 2) (d / 2 ^ h % 2)
unfolding spread
digit h zero a b c d l = absurd (omega arith)
digit zero (suc n) a b c d l =
    let one : 2 ^ (4 * 0) ≡ 1 = refl in
    rw (one, div-one, div-one a, div-one b, div-one c, div-one d) (omega arith)
digit (suc h) (suc n) a b c d l =
    let sixteen : 2 ^ (4 * suc h) ≡ 16 * 2 ^ (4 * h) = split h in
    let rest : (spread (suc n) a + 2 * spread (suc n) b + 4 * spread (suc n) c + 8 * spread (suc n) d) / 16
    ≡ spread n (a / 2) + 2 * spread n (b / 2) + 4 * spread n (c / 2) + 8 * spread n (d / 2) = omega arith in
    rw (sixteen, ← div-div-eq-div-mul (spread (suc n) a + 2 * spread (suc n) b + 4 * spread (suc n) c + 8 * spread (suc n) d) 16 (2 ^ (4 * h)), rest)
    (digit h n (a / 2) (b / 2) (c / 2) (d / 2) (omega arith)
    ∙ rw (half a h, half b h, half c h, half d h))
  where
    split : (h : ℕ) → 2 ^ (4 * suc h) ≡ 16 * 2 ^ (4 * h)
    split h =
        let e : 4 * suc h ≡ suc (suc (suc (suc (4 * h)))) = omega arith in
        rw (e, pow-suc 2 (suc (suc (suc (4 * h)))), pow-suc 2 (suc (suc (4 * h))), pow-suc 2 (suc (4 * h)), pow-suc 2 (4 * h)) (omega arith)

    half : (a h : ℕ) → a / 2 / 2 ^ h ≡ a / 2 ^ suc h
    half a h = rw (pow-suc 2 h) (div-div-eq-div-mul a 2 (2 ^ h) ∙ ap (λ x. a / x) (omega arith))

-- a sum that four bits choose
choice : (v a b c d x y z w : ℕ) → a < 2 → b < 2 → c < 2 → d < 2 → v ≡ four a b c d
    → chosen v x y z w ≡ bit_xor (bit_xor (a * x) (b * y)) (bit_xor (c * z) (d * w))
unfolding chosen
choice v a b c d x y z w la lb lc ld e =
    let two : v / 2 ≡ b + 2 * (c + 2 * d) = omega arith in
    let four : v / 4 ≡ c + 2 * d = omega arith in
    let eight : v / 8 ≡ d = omega arith in
    let ea : v % 2 ≡ a = omega arith in
    rw (ea, two, four, eight, low b (c + 2 * d) lb, low c d lc, low-itself d ld)
  where
    low-itself : (b : ℕ) → b < 2 → b % 2 ≡ b
    low-itself b l = omega arith

    low : (b n : ℕ) → b < 2 → (b + 2 * n) % 2 ≡ b
    low b n l = add-mul-mod_self_left b 2 n ∙ low-itself b l

-- ---- sums of twelve

abbrev quarter : (ℕ → ℕ) → ℕ → ℕ
quarter f k = bit_xor (bit_xor (f (suc k)) (f (suc (suc k)))) (bit_xor (f (suc (suc (suc k)))) (f (suc (suc (suc (suc k))))))

sum-four : (k : ℕ) (f : ℕ → ℕ) → sum (suc (suc (suc (suc k)))) f ≡ bit_xor (sum k f) (quarter f k)
unfolding sum
sum-four k f = simp xor_assoc

sum-twelve : (f : ℕ → ℕ) → sum 12 f ≡ bit_xor (bit_xor (quarter f 0) (quarter f 4)) (quarter f 8)
unfolding sum
sum-twelve f = simp (xor_assoc, xor_zero_l)

-- ---- weights 0 and 1: only the lowest bit counts

power_pos : (n : ℕ) → 1 ≤ 2 ^ n
power_pos zero = omega arith
power_pos (suc n) = rw (pow-suc 2 n) (omega (arith, power_pos n))

no_digit : (x h g : ℕ) → x < 16 → place x (suc h) g ≡ 256 * g
unfolding place
no_digit x h g l =
    let e : 4 * suc h ≡ suc (suc (suc (suc (4 * h)))) = omega arith in
    let big : 2 ^ (4 * suc h) ≡ 16 * 2 ^ (4 * h) =
    rw (e, pow-suc 2 (suc (suc (suc (4 * h)))), pow-suc 2 (suc (suc (4 * h))), pow-suc 2 (suc (4 * h)), pow-suc 2 (4 * h)) (omega arith) in
    let none : x / 2 ^ (4 * suc h) ≡ 0 = div-eq_of_lt (omega (arith, big, power_pos (4 * h))) in
    rw none (omega arith)

module _ (s : List ℕ) (x y z i : ℕ) (lx : x < 16) (ly : y < 16) (lz : z < 16) (first : FirstZero s i) where
  -- a bit above the lowest adds nothing
  no_bit : (h : ℕ) → stepped s x y z i (suc h) 0 ≡ 0
  unfolding stepped double
  no_bit h = rw (no_digit x h 0 lx, no_digit y h 1 ly, no_digit z h 2 lz, first.at 0 (omega arith), first.at 1 (omega arith), first.at 2 (omega arith))

  pub plain-is : (n : ℕ) → down s x y z i 1 0 ≡ down s x y z i (suc n) 0
  unfolding down
  plain-is zero = refl
  plain-is (suc n) = plain-is n ∙ ap (down s x y z i (suc n)) (sym (no_bit n))

-- ---- a byte of a tile

module _ (t starts row : List ℕ) (p n : ℕ) (s : List ℕ) (made : Prepared t starts p n s) (twelve : length starts ≡ 12) (bytes : Bytes t) (weights : Bytes row)
    (i : ℕ) (l : i < n) where
  -- where the sums of byte i begin
  abbrev at : ℕ
  at = i / 16 * 768 + i % 16

  -- what bit h of weight q adds, q from 0
  abbrev term : ℕ → ℕ → ℕ
  term h q = get_or row q 0 / 2 ^ h % 2 * get_or t (get_or starts q 0 + (p + i)) 0

  look : (h g x : ℕ) → h < 8 → g < 3 → x ≡ packed (get_or row (4 * g) 0) (get_or row (4 * g + 1) 0) (get_or row (4 * g + 2) 0) (get_or row (4 * g + 3) 0)
      → get_or s (place x h g + at) 0 ≡ bit_xor (bit_xor (term h (4 * g)) (term h (4 * g + 1))) (bit_xor (term h (4 * g + 2)) (term h (4 * g + 3)))
  unfolding place packed group_sum
  look h g x h8 g3 e =
      let d : ℕ = x / 2 ^ (4 * h) % 16 in
      let c : ℕ = i / 16 in
      let r : ℕ = i % 16 in
      let small : d < 16 = omega arith in
      let where-it-is : d * 16 + 256 * g + (c * 768 + r) ≡ c * 768 + (g * 256 + (16 * d + r)) = omega arith in
      let div : (16 * d + r) / 16 ≡ d = omega arith in
      let rem : (16 * d + r) % 16 ≡ r = omega arith in
      let digits : d ≡ four (get_or row (4 * g) 0 / 2 ^ h % 2) (get_or row (4 * g + 1) 0 / 2 ^ h % 2) (get_or row (4 * g + 2) 0 / 2 ^ h % 2) (get_or row (4 * g + 3) 0 / 2 ^ h % 2) =
      ap (λ x. x / 2 ^ (4 * h) % 16) e ∙ digit h 8 _ _ _ _ h8 in
      let byte_at : (q : ℕ) → lane t (get_or starts q 0 + (p + 16 * c)) (n - 16 * c) r ≡ get_or t (get_or starts q 0 + (p + i)) 0 =
      λ q. let same : get_or starts q 0 + (p + 16 * c) + r ≡ get_or starts q 0 + (p + i) = omega arith in
      lane_in t (get_or starts q 0 + (p + 16 * c)) (n - 16 * c) r (omega arith) ∙ ap (λ k. get_or t k 0) same in
      ap (λ k. get_or s k 0) where-it-is
      ∙ made.at c g d r (omega arith) g3 small (omega arith)
      ∙ rw (div, rem, byte_at (4 * g), byte_at (4 * g + 1), byte_at (4 * g + 2), byte_at (4 * g + 3))
      (choice d _ _ _ _ _ _ _ _ (low_bit _) (low_bit _) (low_bit _) (low_bit _) digits)

  module _ (x y z : ℕ) (ex : x ≡ packed (get_or row 0 0) (get_or row 1 0) (get_or row 2 0) (get_or row 3 0))
      (ey : y ≡ packed (get_or row 4 0) (get_or row 5 0) (get_or row 6 0) (get_or row 7 0))
      (ez : z ≡ packed (get_or row 8 0) (get_or row 9 0) (get_or row 10 0) (get_or row 11 0)) where
    one_bit : (h : ℕ) → h < 8 → stepped s x y z at h (above t starts row (p + i) (suc h)) ≡ above t starts row (p + i) h
    unfolding stepped bits byte
    one_bit h h8 =
        rw (
          look h 0 x h8 (omega arith) ex,
          look h 1 y h8 (omega arith) ey,
          look h 2 z h8 (omega arith) ez,
          above-next t starts row (p + i) h weights bytes,
          twelve,
          sum-twelve (λ q. get_or row (q - 1) 0 / 2 ^ h % 2 * get_or t (get_or starts (q - 1) 0 + (p + i)) 0),
        )
        (simp xor_assoc)

    all-bits : (k : ℕ) → k ≤ 8 → down s x y z at k (above t starts row (p + i) k) ≡ above t starts row (p + i) 0
    unfolding down
    all-bits zero l8 = refl
    all-bits (suc k) l8 = ap (down s x y z at k) (one_bit k (omega arith)) ∙ all-bits k (omega arith)

    pub down-combined : down s x y z at 8 0 ≡ combined t starts row (p + i)
    down-combined =
        ap (down s x y z at 8) (sym (above-none t starts row (p + i) weights)) ∙ all-bits 8 (omega arith) ∙ above-all t starts row (p + i)

-- ---- the sums that no bit chooses

pub zeroed : (t starts : List ℕ) (p n : ℕ) (s : List ℕ) → Prepared t starts p n s → Zeroed n s
unfolding group_sum chosen
zeroed t starts p n s made = record { at = λ i l. record { at = one i l } }
  where
    one : (i : ℕ) → i < n → (g : ℕ) → g < 3 → get_or s (256 * g + (i / 16 * 768 + i % 16)) 0 ≡ 0
    one i l g hg =
        let c : ℕ = i / 16 in
        let r : ℕ = i % 16 in
        let at : 256 * g + (c * 768 + r) ≡ c * 768 + (g * 256 + (16 * 0 + r)) = omega arith in
        let none : (16 * 0 + r) / 16 ≡ 0 = omega arith in
        ap (λ k. get_or s k 0) at ∙ made.at c g 0 r (omega arith) hg (omega arith) (omega arith) ∙ rw none (simp (zero-mul, xors))

-- at place l of the 16 bytes that c times 16 bytes stand before
pub lane-zero : (n : ℕ) (s : List ℕ) → Zeroed n s → (c l : ℕ) → l < 16 → 16 * c + l < n → FirstZero s (c * 768 + l)
lane-zero n s z c l h k =
    let e : (16 * c + l) / 16 * 768 + (16 * c + l) % 16 ≡ c * 768 + l = omega arith in
    subst (FirstZero s) e (z.at (16 * c + l) k)
