-- The sum of blocks times weights by the bits of the weights: doubled, plus what the next bit adds, it is the sum with one bit more. Assumes nothing.
use mathlib.Core.List.{List}
use mathlib.Core.Path.{◌≡◌, refl, sym, ap, ◌∙◌}
use Prim.Native.Nat.{ℕ, zero, suc, ◌+◌, ◌-◌, ◌*◌, ◌/◌, ◌%◌, ◌^◌, ◌<◌}
use native.Mathlib.Nat.{pow-suc, div-one, div-eq_of_lt, div-le_self, div-div-eq-div-mul, zero-mul, one-mul}
use native.Mathlib.Omega.{arith}
use lib.Bits.{bit_xor}
use lib.ListN.{length, get_or}
use Rattle.gf256.specs.Field.{double, product, sum}
use Rattle.basics.proofs.Computed.{every, same-below}
use Rattle.gf256.proofs.Laws.{double-add, product-double, one_product, zero-product, add-product}
use Rattle.gf256.proofs.Xor.{bit-cases, low_bit}
use Rattle.blocks.specs.Blocks.{Bytes}
use Rattle.kernel.specs.Working.{combined}
use Rattle.gf256.proofs.Sum.{All, sum-ext, sum-zero, sum-add}

-- ---- one product

-- a byte is its halves doubled, plus its lowest bit: computed over the bytes
halves : (a : ℕ) → a < 256 → a ≡ bit_xor (double (a / 2)) (a % 2)
unfolding every double
halves = same-below 256 (λ a. a) (λ a. bit_xor (double (a / 2)) (a % 2)) refl

bit-product : (x y : ℕ) → x < 2 → y < 256 → product x y ≡ x * y
bit-product x y lx ly =
    bit-cases (λ x. product x y ≡ x * y) x lx (zero-product y ∙ sym (zero-mul y)) (one_product y ly ∙ sym (one-mul y))

product-halves : (a y : ℕ) → a < 256 → y < 256 → product a y ≡ bit_xor (double (product (a / 2) y)) (a % 2 * y)
product-halves a y la ly =
    ap (λ x. product x y) (halves a la) ∙ add-product (double (a / 2)) (a % 2) y
    ∙ rw (product-double (a / 2) y (omega arith), bit-product (a % 2) y (low_bit a) ly)

-- ---- sums

sum-double : (k : ℕ) (f : ℕ → ℕ) → sum k (λ q. double (f q)) ≡ double (sum k f)
unfolding sum double
sum-double zero f = refl
sum-double (suc k) f = rw (sum, sum-double k f) (sym (double-add (sum k f) (f (suc k))))

module _ (t starts weights : List ℕ) (p : ℕ) where
  -- byte p of block q
  unfoldable pub byte : ℕ → ℕ
  byte q = get_or t (get_or starts (q - 1) 0 + p) 0

  -- byte p of the sum, of the weights less their h lowest bits
  pub above : ℕ → ℕ
  above h = sum (length starts) (λ q. product (get_or weights (q - 1) 0 / 2 ^ h) (byte q))

  -- and of the bits h alone
  unfoldable pub bits : ℕ → ℕ
  bits h = sum (length starts) (λ q. get_or weights (q - 1) 0 / 2 ^ h % 2 * byte q)

  pub above-none : Bytes weights → above 8 ≡ 0
  unfolding above
  above-none w =
      sum-zero (length starts) _
      (λ q q1 qk. let e : get_or weights (q - 1) 0 / 2 ^ 8 ≡ 0 = div-eq_of_lt (w.small (q - 1)) in rw e (zero-product (byte q)))

  pub above-all : above 0 ≡ combined t starts weights p
  unfolding above byte
  above-all =
      sum-ext (length starts) _ _
      (λ q q1 qk. let e : get_or weights (q - 1) 0 / 2 ^ 0 ≡ get_or weights (q - 1) 0 = div-one (get_or weights (q - 1) 0) in rw e)

  pub above-next : (h : ℕ) → Bytes weights → Bytes t → above h ≡ bit_xor (double (above (suc h))) (bits h)
  unfolding above bits byte
  above-next h w y =
      sum-ext (length starts) _ (λ q. bit_xor (double (product (get_or weights (q - 1) 0 / 2 ^ suc h) (byte q))) (get_or weights (q - 1) 0 / 2 ^ h % 2 * byte q)) one
      ∙ sum-add (length starts) _ _
      ∙ ap (λ x. bit_xor x (bits h)) (sum-double (length starts) _)
    where
      one : All (length starts) (λ q. product (get_or weights (q - 1) 0 / 2 ^ h) (byte q)
          ≡ bit_xor (double (product (get_or weights (q - 1) 0 / 2 ^ suc h) (byte q))) (get_or weights (q - 1) 0 / 2 ^ h % 2 * byte q))
      one q q1 qk =
          rw (pow-suc 2 h, ← div-div-eq-div-mul (get_or weights (q - 1) 0) (2 ^ h) 2)
          (product-halves (get_or weights (q - 1) 0 / 2 ^ h) (byte q)
          (omega (arith, w.small (q - 1), div-le_self (get_or weights (q - 1) 0) (2 ^ h))) (y.small (get_or starts (q - 1) 0 + p)))
