-- The test of tables that are to be made fresh, and what they are then. Assumes nothing.
use mathlib.Core.Bool.{Bool, true, false, ◌&&◌}
use mathlib.Core.Path.{◌≡◌, refl}
use Prim.Native.Nat.{ℕ, zero, suc}
use mathlib.Core.List.{map}
use lib.ListN.{replicate}
use lib.Dec.{eqb}
use Rattle.tables.specs.declared.Volume.{Volume}
use Rattle.tables.specs.Parts.{lengths_of, volume_within}
use Rattle.tables.specs.Renewals.{fresh_fits}
use Rattle.tables.proofs.Within.{blocks-table, small}

-- the test of the lengths, by the lengths that the code has
pub fresh-fits : (v : Volume) (nodes clients blocks : ℕ) → fresh_fits v nodes clients blocks
    ≡ (volume_within v && (eqb nodes (lengths_of v).nodes && (eqb clients (lengths_of v).clients && eqb blocks (lengths_of v).blocks)))
fresh-fits v nodes clients blocks = by (volume_within v) refl
  where
    by : (t : Bool) → volume_within v ≡ t → fresh_fits v nodes clients blocks
        ≡ (volume_within v && (eqb nodes (lengths_of v).nodes && (eqb clients (lengths_of v).clients && eqb blocks (lengths_of v).blocks)))
    by true e = rw (e, blocks-table v.z (small v e).n (small v e).b) refl
    by false e = rw e refl

-- the same record in each place, as it is seen
pub map_replicate : {S B : Type 0} (of : S → B) (n : ℕ) (x : S) → map of (replicate n x) ≡ replicate n (of x)
map_replicate of zero x = refl
map_replicate of (suc n) x = rw (map_replicate of n x)
