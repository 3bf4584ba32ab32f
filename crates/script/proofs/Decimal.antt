-- The digits that `io::decimal` writes are the decimal digits of the number. Assumes nothing.
use mathlib.Core.Path.{◌≡◌, ap}
use mathlib.Core.List.{[], ◌∷◌, ◌++◌}
use mathlib.Core.Bool.{true, false}
use mathlib.Core.Logic.{◌⊎◌, inl, inr}
use Prim.Native.Nat.{ℕ, zero, suc, ◌+◌, ◌-◌, ◌*◌, ◌/◌, ◌%◌, ◌^◌, ◌≤◌, ◌<◌}
use native.Mathlib.Nat.{pow-suc, mod-lt, mod-eq_of_lt, div-lt_iff_lt-mul, le-div_iff_mul-le}
use native.Mathlib.Omega.{arith}
use lib.Dec.{leb, ltb, lit<}
use lib.Pow.{pow-add}
use lib.ListN.{length, length-append}
use borrow.Author.Tests.{lt-ltb, le-ltb, leb-true, leb-false}
use Rattle.basics.proofs.Tests.{bool_cases, cond_ind}
use Rattle.io.specs.Digits.{last_digits, IsDigitCount}
use Rattle.script.specs.Lines.{decimal_in, decimal}

pub decimal-length : (places n : ℕ) → length (decimal_in places n) ≤ places
unfolding decimal_in
decimal-length zero n = omega arith
decimal-length (suc places) n =
    let last = (48 + n % 10) ∷ [] in
    cond_ind (λ t. length t ≤ suc places) (ltb n 10) ((48 + n) ∷ []) (decimal_in places (n / 10) ++ last) (λ e. omega arith)
    (λ e. rw length-append (omega (arith, decimal-length places (n / 10))))

ten-pos : (k : ℕ) → 0 < 10 ^ k
ten-pos zero = omega arith
ten-pos (suc k) = rw pow-suc (omega (arith, ten-pos k))

same_digits : (k places n : ℕ) → k < places → n < 10 ^ suc k → (0 < k → 10 ^ k ≤ n) → last_digits 10 (suc k) n ≡ decimal_in places n
unfolding decimal_in
same_digits k zero n l small large = absurd (omega arith)
same_digits zero (suc places) n l small large =
    let below : n < 10 = small in
    rw (mod-eq_of_lt below, lt-ltb n 10 below)
same_digits (suc k) (suc places) n l small large =
    let power : 10 ^ suc (suc k) ≡ 10 ^ suc k * 10 = pow-suc 10 (suc k) in
    let power' : 10 ^ suc k ≡ 10 ^ k * 10 = pow-suc 10 k in
    let many : 10 ^ suc k ≤ n = large (omega arith) in
    let some : 0 < 10 ^ k = ten-pos k in
    let ten : 10 ≤ n = omega arith in
    let digit : n % 10 < 10 = mod-lt n (lit< tt) in
    let rest = same_digits k places (n / 10) (omega arith) ((div-lt_iff_lt-mul (lit< tt)).1 (omega arith)) (λ h. (le-div_iff_mul-le (lit< tt)).1 (omega arith)) in
    rw (le-ltb n 10 ten, lt-ltb (n % 10) 10 digit, rest)

-- a number of 64 bits has at most 20 digits
few-digits : (k n : ℕ) → n < 2 ^ 64 → (0 < k → 10 ^ k ≤ n) → k < 20
few-digits k n fits large = go (bool_cases (leb 20 k))
  where
    go : (leb 20 k ≡ true) ⊎ (leb 20 k ≡ false) → k < 20
    go (inr e) = leb-false 20 k e
    go (inl e) =
        let long : 20 ≤ k = leb-true 20 k e in
        let power : 10 ^ (20 + (k - 20)) ≡ 10 ^ 20 * 10 ^ (k - 20) = pow-add 10 20 (k - 20) in
        let at-k : 10 ^ (20 + (k - 20)) ≡ 10 ^ k = let e : 20 + (k - 20) ≡ k = omega arith in ap (λ (i : ℕ). 10 ^ i) e in
        absurd (omega (arith, large (omega arith), ten-pos (k - 20), fits))

-- the fewest digits of a number of 64 bits are its decimal digits
pub fewest-digits : {n k : ℕ} → n < 2 ^ 64 → IsDigitCount 10 1 n k → last_digits 10 k n ≡ decimal n
fewest-digits {k = zero} fits f = absurd (omega (arith, f.0))
fewest-digits {n = n} {k = suc k} fits f =
    let large : 0 < k → 10 ^ k ≤ n = λ h. let same : suc k - 1 ≡ k = omega arith in rw same at (f.2 (omega arith)) in
    same_digits k 20 n (few-digits k n fits large) f.1 large
