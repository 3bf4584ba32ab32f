-- The part of a stripe lies in its table, whatever the table's length. Assumes nothing.
use mathlib.Core.Bool.{Bool, true, false, cond}
use mathlib.Core.Path.{◌≡◌, refl}
use Prim.Native.Nat.{ℕ, ◌+◌, ◌*◌}
use native.Mathlib.Omega.{arith}
use lib.Dec.{leb, ltb}
use borrow.Author.Tests.{leb-true}
use Rattle.basics.proofs.Tests.{and_right}
use Rattle.parts.proofs.Part.{Within}
use Rattle.volume.specs.Volume.{stripe_limit}
use Rattle.tables.specs.Parts.{has_part, part_most, part_of}

pub part-within : (s each len : ℕ) → Within (part_of s each len) len
part-within s each len = by-test (has_part s each len) refl
  where
    by-test : (t : Bool) → has_part s each len ≡ t → Within (record { first = cond t (s * each) 0; end = cond t (s * each + each) 0 }) len
    by-test true has = record {
      order = omega arith;
      fits = leb-true (s * each + each) len (and_right (ltb s stripe_limit) (leb (s * each + each) len)
          (and_right (leb each part_most) _ has));
    }
    by-test false has = record { order = omega arith; fits = omega arith }
