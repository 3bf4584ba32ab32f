-- When a table has a block. Assumes nothing.
--     has-tested   the test by a quotient, which cannot overflow, is the one by a product
--     has_in       a block that a table has ends within it.        in-has       and one that ends within it is there
--     block_there  then it is the block
use mathlib.Core.Path.{◌≡◌, refl, sym, ap, ◌∙◌}
use mathlib.Core.Bool.{Bool, true, false, cond}
use mathlib.Core.List.{List, []}
use Prim.Native.Nat.{ℕ, suc, ◌+◌, ◌-◌, ◌*◌, ◌/◌, ◌≤◌, ◌<◌}
use native.Mathlib.Nat.{le-div_iff_mul-le, div-lt_iff_lt-mul, mul_comm, suc-mul}
use native.Mathlib.Omega.{arith}
use lib.Dec.{leb}
use lib.ListN.{length}
use borrow.Author.Tests.{leb-true, leb-false, le-leb, lt-leb}
use Rattle.basics.proofs.Tests.{and_left, and_right}
use Rattle.blocks.specs.Blocks.{block, has_block, block_in}

same_test : (t : Bool) (x y z w : ℕ) → leb x y ≡ t → (x ≤ y → z ≤ w) → (y < x → w < z) → t ≡ leb z w
same_test true x y z w e f g = sym (le-leb z w (f (leb-true x y e)))
same_test false x y z w e f g = sym (lt-leb z w (g (leb-false x y e)))

pub has-tested : (b j len : ℕ) → 1 ≤ j → leb b (len / j) ≡ has_block b j len
has-tested b j len l =
    same_test _ b (len / j) (j * b) len refl
    (λ h. rw (mul_comm j b) ((le-div_iff_mul-le l).0 h))
    (λ h. rw (mul_comm j b) ((div-lt_iff_lt-mul l).0 h))
    ∙ rw (le-leb 1 j l)

block-end : (j b : ℕ) → 1 ≤ j → j * b ≡ (j - 1) * b + b
block-end j b l = let e : suc (j - 1) ≡ j = omega arith in ap (λ (i : ℕ). i * b) (sym e) ∙ suc-mul (j - 1) b

pub has_in : (b j len : ℕ) → has_block b j len ≡ true → (1 ≤ j) × ((j - 1) * b + b ≤ len)
has_in b j len e =
    let l : 1 ≤ j = leb-true 1 j (and_left (leb 1 j) _ e) in
    let h : j * b ≤ len = leb-true (j * b) len (and_right (leb 1 j) _ e) in
    (l, omega (arith, block-end j b l, h))

pub in-has : (b j len : ℕ) → 1 ≤ j → (j - 1) * b + b ≤ len → has_block b j len ≡ true
in-has b j len l h = rw (le-leb 1 j l) (le-leb (j * b) len (omega (arith, block-end j b l, h)))

pub block_there : (b j : ℕ) (t : List ℕ) → 1 ≤ j → (j - 1) * b + b ≤ length t → block_in b j t ≡ block b j t
block_there b j t l h = ap (λ there. cond there (block b j t) []) (in-has b j (length t) l h)
