-- The points of two nodes differ. Assumes nothing.
use mathlib.Core.Logic.{◌≢◌, ◌⊎◌, inl, inr}
use mathlib.Core.Path.{◌≡◌}
use Prim.Native.Nat.{ℕ, ◌-◌, ◌≤◌, ◌<◌}
use native.Mathlib.Nat.{eq-zero-or-pos}
use native.Mathlib.Omega.{arith}
use Rattle.gf256.proofs.Ring.{◌⊕◌, sum-zero-eq, Nonzero}
use Rattle.gf256.proofs.Xor.{xor-byte}

pub apart : (a b : ℕ) → 1 ≤ a → a ≤ 256 → 1 ≤ b → b ≤ 256 → a ≢ b → Nonzero ((a - 1) ⊕ (b - 1))
apart a b a1 a2 b1 b2 h = (by (eq-zero-or-pos ((a - 1) ⊕ (b - 1))), xor-byte (a - 1) (b - 1) (omega arith) (omega arith))
  where
    by : ((a - 1) ⊕ (b - 1) ≡ 0) ⊎ (0 < (a - 1) ⊕ (b - 1)) → 0 < (a - 1) ⊕ (b - 1)
    by (inl z) = absurd (omega (arith, sum-zero-eq (a - 1) (b - 1) z))
    by (inr p) = p
