-- The field in infix notation, and what dividing by a byte that is not 0 gives. Assumes nothing.
use mathlib.Core.Path.{◌≡◌, sym, ◌∙◌}
use Prim.Native.Nat.{ℕ, ◌<◌}
use lib.Bits.{bit_xor}
use Rattle.gf256.specs.Field.{product, inverse}
use Rattle.gf256.proofs.Laws as laws
use Rattle.gf256.proofs.Xor.{xor_zero_r, xor-cancel}
pub use Rattle.gf256.proofs.Laws.{ring}

infixl 65 ◌⊕◌
infixl 70 ◌⊗◌
abbrev pub ◌⊕◌ : ℕ → ℕ → ℕ
a ⊕ b = bit_xor a b

abbrev pub ◌⊗◌ : ℕ → ℕ → ℕ
a ⊗ b = product a b

-- a product is a byte, so 1 leaves it as it is
pub one-times : (a b : ℕ) → 1 ⊗ (a ⊗ b) ≡ a ⊗ b
one-times a b = laws.one_product (a ⊗ b) (laws.product-byte a b)

-- what adds up to 0 is equal
pub sum-zero-eq : (a b : ℕ) → a ⊕ b ≡ 0 → a ≡ b
sum-zero-eq a b e = sym (xor_zero_r a) ∙ rw (← e) (xor-cancel a b)

-- ---- a byte that is not 0

abbrev pub Nonzero : ℕ → Type 0
Nonzero w = (0 < w) × (w < 256)

pub nonzero-times : (v w : ℕ) → Nonzero v → Nonzero w → Nonzero (v ⊗ w)
nonzero-times v w (pv, lv) (pw, lw) = (laws.product-nonzero v w pv lv pw lw, laws.product-byte v w)

pub inverse-times : (w : ℕ) → Nonzero w → inverse w ⊗ w ≡ 1
inverse-times w h = laws.inverse-product w h.0 h.1

-- v undoes w
pub undo : (v w x : ℕ) → v ⊗ w ≡ 1 → v ⊗ (w ⊗ x) ≡ 1 ⊗ x
undo v w x e = sym (laws.product-assoc v w x) ∙ rw e

-- x's low byte is 0
pub cancel : (w x : ℕ) → Nonzero w → w ⊗ x ≡ 0 → 1 ⊗ x ≡ 0
cancel w x h z = sym (undo (inverse w) w x (inverse-times w h)) ∙ rw z (laws.product-zero (inverse w))
