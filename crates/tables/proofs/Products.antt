-- The lengths of a volume's tables are far below what a number holds. Assumes nothing.
use mathlib.Core.Bool.{Bool, true, false, cond, not, ◌&&◌}
use mathlib.Core.Path.{◌≡◌, sym, ◌∙◌}
use Prim.Native.Nat.{ℕ, ◌*◌, ◌≤◌}
use native.Mathlib.Nat.{mul-le-mul}
use native.Mathlib.Omega.{arith}
use lib.Dec.{leb}
use borrow.Author.Tests.{leb-true, not-false}
use Rattle.basics.proofs.Tests.{and_left, and_right, cond_ind}
use Rattle.limits.proofs.Limits.{clients-few, code-sizes}
use Rattle.records.proofs.Limits.{nodes-few}
use Rattle.records.specs.declared.Sizes.{Sizes}
use Rattle.records.specs.Sizes.{block_limit, client_limit, node_limit, sizes_within}
use Rattle.volume.specs.Volume.{stripe_limit}
use Rattle.tables.specs.declared.Volume.{Volume}
use Rattle.tables.specs.Parts.{part_most, table_blocks, table_differences, volume_within}

-- a stripe's blocks, and its clients' differences
bytes-few : (most n b : ℕ) → cond (leb n most && leb b block_limit) (n * b) 0 ≤ most * block_limit
bytes-few most n b =
    cond_ind (λ x. x ≤ most * block_limit) (leb n most && leb b block_limit) (n * b) 0
    (λ e. mul-le-mul (leb-true n most (and_left (leb n most) (leb b block_limit) e)) (leb-true b block_limit (and_right (leb n most) (leb b block_limit) e)))
    (λ _. omega arith)

pub blocks-few : (z : Sizes) → table_blocks z ≤ part_most
blocks-few z = bytes-few node_limit z.n z.b

differences-few : (z : Sizes) → table_differences z ≤ part_most
differences-few z = omega (arith, bytes-few client_limit z.m z.b)

-- the tables of a volume that passed the test of its limits
module _ (v : Volume) (r : Bool) (is : r ≡ volume_within v) (passed : not r ≡ false) where
  abbrev stripes_within : Bool
  stripes_within = leb 1 v.stripes && leb v.stripes stripe_limit

  within : (stripes_within && sizes_within v.z) ≡ true
  unfolding volume_within
  within = sym is ∙ not-false r passed

  sizes-within : sizes_within v.z ≡ true
  sizes-within = and_right stripes_within (sizes_within v.z) within

  table-length : (each : ℕ) → each ≤ part_most → v.stripes * each ≤ stripe_limit * part_most
  table-length each few =
      mul-le-mul (leb-true v.stripes stripe_limit (and_right (leb 1 v.stripes) _ (and_left stripes_within (sizes_within v.z) within))) few

  pub nodes-length : v.stripes * v.z.n ≤ stripe_limit * part_most
  nodes-length = table-length v.z.n (omega (arith, nodes-few v.z sizes-within))

  pub clients-length : v.stripes * v.z.m ≤ stripe_limit * part_most
  clients-length = table-length v.z.m (omega (arith, clients-few v.z sizes-within))

  pub value-length : v.stripes * v.z.b ≤ stripe_limit * part_most
  value-length = table-length v.z.b (omega (arith, code-sizes v.z sizes-within))

  pub blocks-length : (each : ℕ) → each ≡ table_blocks v.z → v.stripes * each ≤ stripe_limit * part_most
  blocks-length each e = table-length each (rw e (blocks-few v.z))

  pub differences_length : (each : ℕ) → each ≡ table_differences v.z → v.stripes * each ≤ stripe_limit * part_most
  differences_length each e = table-length each (rw e (differences-few v.z))
