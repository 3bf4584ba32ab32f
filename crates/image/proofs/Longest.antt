-- No image is longer than that of the largest sizes. Assumes nothing.
use mathlib.Core.Bool.{Bool, true, false, cond}
use mathlib.Core.Path.{◌≡◌, refl}
use Prim.Native.Nat.{◌*◌, ◌≤◌}
use native.Mathlib.Nat.{mul-le-mul}
use native.Mathlib.Omega.{arith}
use Rattle.records.specs.declared.Sizes.{Sizes}
use Rattle.records.specs.Sizes.{sizes_within}
use Rattle.image.specs.Image.{image_length}
use Rattle.image.specs.Places.{length_by, image_most}
use Rattle.image.proofs.Limits.{small}

pub within-most : (z : Sizes) → sizes_within z ≡ true → image_length z ≤ image_most
unfolding image_length
within-most z h =
    let s = small z h in
    let blocks : z.n * z.b ≤ 18 * 4096 = mul-le-mul s.n s.b in
    let differences : z.m * z.b ≤ 8 * 4096 = mul-le-mul s.m s.b in
    omega (arith, s.n, s.m, blocks, differences)

pub length_most : (z : Sizes) → length_by z ≤ image_most
length_most z = by (sizes_within z) refl
  where
    by : (t : Bool) → sizes_within z ≡ t → cond t (image_length z) 0 ≤ image_most
    by true e = within-most z e
    by false e = omega arith
