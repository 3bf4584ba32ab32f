-- The serial limit of the few n−k and t_p that are planned for: each rule is a test of all pairs, which antt computes once. Assumes nothing.
use mathlib.Core.Bool.{Bool, true, false}
use mathlib.Core.Path.{◌≡◌, refl, ap}
use Prim.Native.Nat.{ℕ, ◌+◌, ◌-◌, ◌*◌, ◌/◌, ◌^◌, ◌≤◌, ◌<◌}
use native.Mathlib.Nat.{mul-le-mul}
use native.Mathlib.Omega.{arith}
use lib.Dec.{eqb, ltb}
use lib.IntN.{ℤ, pos, negsuc, sub_ℕ}
use lib.Signed.{mag}
use mir.Syntax.{w64}
use mir.Val.{SFits}
use borrow.Author.Tests.{eqb-true, ltb-true}
use Rattle.basics.proofs.Computed.{every, below}
use Rattle.planning.specs.Planning.{serial_limit}

-- two whole numbers that are the same
abbrev same : ℤ → ℤ → Bool
same (pos a) (pos b) = eqb a b
same (pos a) (negsuc b) = false
same (negsuc a) (pos b) = false
same (negsuc a) (negsuc b) = eqb a b

are-same : (x y : ℤ) → same x y ≡ true → x ≡ y
are-same (pos a) (pos b) e = ap pos (eqb-true a b e)
are-same (pos a) (negsuc b) e = cc
are-same (negsuc a) (pos b) e = cc
are-same (negsuc a) (negsuc b) e = ap negsuc (eqb-true a b e)

-- a test of every n−k and t_p that is planned for
module _ (p : ℕ → ℕ → Bool) (computed : every 7 (λ redundant. every 7 (p redundant)) ≡ true) where
  pairs : (redundant stops : ℕ) → redundant < 7 → stops < 7 → p redundant stops ≡ true
  pairs redundant stops l m = below 7 (p redundant) (below 7 (λ redundant. every 7 (p redundant)) computed redundant l) stops m

-- the limit and 3: the fractions over 2(t_p+1)
abbrev raised : ℕ → ℕ → ℕ
raised redundant stops = (2 * redundant + (stops + 1) * (6 - stops) + 2 * (stops + 1) - 1) / (2 * (stops + 1))

pub raised-limit : (redundant stops : ℕ) → redundant < 7 → stops < 7 → sub_ℕ (raised redundant stops) 3 ≡ serial_limit redundant stops
raised-limit redundant stops l m =
    are-same _ _ (pairs (λ redundant stops. same (sub_ℕ (raised redundant stops) 3) (serial_limit redundant stops)) computed redundant stops l m)
  where
    computed : every 7 (λ redundant. every 7 (λ stops. same (sub_ℕ (raised redundant stops) 3) (serial_limit redundant stops))) ≡ true
    computed = unfold every serial_limit in refl

pub raised-small : (redundant stops : ℕ) → redundant < 7 → stops < 7 → raised redundant stops < 10
raised-small redundant stops l m =
    ltb-true _ _ (pairs (λ redundant stops. ltb (raised redundant stops) 10) computed redundant stops l m)
  where
    computed : every 7 (λ redundant. every 7 (λ stops. ltb (raised redundant stops) 10)) ≡ true
    computed = unfold every in refl

pub product_small : (stops : ℕ) → stops ≤ 6 → (stops + 1) * (6 - stops) ≤ 42
product_small stops l = mul-le-mul {n₂ = 7} {m₂ = 6} (omega arith) (omega arith)

-- with the 3 taken off it fits 64 bits
pub lowered-fits : (x : ℕ) → x < 10 → SFits w64 (sub_ℕ x 3)
lowered-fits x l = record { sfits = ltb-true _ _ (below 10 (λ x. ltb (mag (sub_ℕ x 3)) (2 ^ 63)) computed x l) }
  where
    computed : every 10 (λ x. ltb (mag (sub_ℕ x 3)) (2 ^ 63)) ≡ true
    computed = unfold every in refl
