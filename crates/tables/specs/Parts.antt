-- The lengths of a volume's tables, and where a stripe's part of each begins and ends. Assumes nothing.
use Rattle.std.specs.Prelude.{Bool, cond, ◌&&◌, ℕ, ◌+◌, ◌*◌, leb, ltb}
use Rattle.parts.specs.Inside.{Range}
use Rattle.records.specs.declared.Sizes.{Sizes}
use Rattle.records.specs.Sizes.{block_limit, client_limit, node_limit, sizes_within}
use Rattle.volume.specs.Volume.{stripe_limit}
use Rattle.tables.specs.declared.Lengths.{Lengths}
use Rattle.tables.specs.declared.Volume.{Volume}

-- a stripe's part has at most as many elements as a table of blocks has bytes
abbrev pub part_most : ℕ
part_most = node_limit * block_limit

-- the part of stripe s, in a table of `len` with `each` elements for a stripe; an empty one if it is not all there
abbrev pub has_part : ℕ → ℕ → ℕ → Bool
has_part s each len = leb each part_most && (ltb s stripe_limit && leb (s * each + each) len)

abbrev pub part_from : ℕ → ℕ → ℕ → ℕ
part_from s each len = cond (has_part s each len) (s * each) 0

abbrev pub part_to : ℕ → ℕ → ℕ → ℕ
part_to s each len = cond (has_part s each len) (s * each + each) 0

abbrev pub part_of : ℕ → ℕ → ℕ → Range
part_of s each len = record { first = part_from s each len; end = part_to s each len }

-- the bytes of a stripe's blocks, and of its clients' differences; 0 if the sizes are too large for a stripe
abbrev pub table_blocks : Sizes → ℕ
table_blocks z = cond (leb z.n node_limit && leb z.b block_limit) (z.n * z.b) 0

abbrev pub table_differences : Sizes → ℕ
table_differences z = cond (leb z.m client_limit && leb z.b block_limit) (z.m * z.b) 0

-- "a stripe count outside 1 to 1,024", sizes
unfoldable pub volume_within : Volume → Bool
volume_within v = (leb 1 v.stripes && leb v.stripes stripe_limit) && sizes_within v.z

abbrev pub lengths_of : Volume → Lengths
lengths_of v =
    cond (volume_within v)
    (record {
      nodes = v.stripes * v.z.n;
      clients = v.stripes * v.z.m;
      blocks = v.stripes * table_blocks v.z;
      differences = v.stripes * table_differences v.z;
      value = v.stripes * v.z.b;
    })
    (record { nodes = 0; clients = 0; blocks = 0; differences = 0; value = 0 })
