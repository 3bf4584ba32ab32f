-- What a volume within the limits has. Assumes nothing.
use mathlib.Core.Bool.{true, ◌&&◌}
use mathlib.Core.Path.{◌≡◌}
use Prim.Native.Nat.{◌*◌, ◌≤◌}
use lib.Dec.{leb}
use borrow.Author.Tests.{le-leb, leb-true}
use Rattle.basics.proofs.Tests.{and_both}
use Rattle.limits.proofs.Limits.{clients-few, code-sizes}
use Rattle.records.specs.declared.Sizes.{Sizes}
use Rattle.records.specs.Sizes.{block_limit, client_limit, node_limit, sizes_within}
use Rattle.records.proofs.Limits.{nodes-few}
use Rattle.volume.specs.Volume.{stripe_limit}
use Rattle.tables.specs.declared.Volume.{Volume}
use Rattle.tables.specs.Parts.{table_blocks, table_differences, volume_within}

-- the volume is within the limits
pub record Small (v : Volume) : Type 0 where
  pub stripes : v.stripes ≤ stripe_limit
  pub some : 1 ≤ v.stripes
  pub within : sizes_within v.z ≡ true
  pub n : v.z.n ≤ node_limit
  pub m : v.z.m ≤ client_limit
  pub b : v.z.b ≤ block_limit

pub small : (v : Volume) → volume_within v ≡ true → Small v
unfolding volume_within
small v e =
    let both = and_both (leb 1 v.stripes && leb v.stripes stripe_limit) (sizes_within v.z) e in
    let count = and_both (leb 1 v.stripes) (leb v.stripes stripe_limit) both.0 in
    record {
      stripes = leb-true v.stripes stripe_limit count.1;
      some = leb-true 1 v.stripes count.0;
      within = both.1;
      n = nodes-few v.z both.1;
      m = clients-few v.z both.1;
      b = (code-sizes v.z both.1).block_most;
    }

pub blocks-table : (z : Sizes) → z.n ≤ node_limit → z.b ≤ block_limit → table_blocks z ≡ z.n * z.b
blocks-table z n b = rw (le-leb z.n node_limit n, le-leb z.b block_limit b)

pub differences-table : (z : Sizes) → z.m ≤ client_limit → z.b ≤ block_limit → table_differences z ≡ z.m * z.b
differences-table z m b = rw (le-leb z.m client_limit m, le-leb z.b block_limit b)
