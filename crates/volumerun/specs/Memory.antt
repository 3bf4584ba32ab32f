-- What the program has memory for, of all stripes together. Assumes nothing.
use Rattle.std.specs.Prelude.{Bool, ◌&&◌, ◌≤◌, leb}
use Rattle.tables.specs.declared.Lengths.{Lengths}
use Rattle.tables.specs.declared.Volume.{Volume}
use Rattle.tables.specs.Parts.{lengths_of}

-- node records, client records, bytes of blocks and of spare each, bytes of differences, bytes of a value
abbrev pub fits_lengths : Lengths → Bool
fits_lengths l =
    leb l.nodes 18432 && (leb l.clients 8192 && (leb l.blocks 131072 && (leb l.differences 262144 && leb l.value 32768)))

abbrev pub fits_in : Volume → Bool
fits_in v = fits_lengths (lengths_of v)

-- what the tables of bytes are cut by
pub record Fits (v : Volume) : Type 0 where
  pub blocks : (lengths_of v).blocks ≤ 131072
  pub differences : (lengths_of v).differences ≤ 262144
