-- Where the sections of an image begin, and its length by any sizes, as the code has it. Assumes nothing.
use Rattle.std.specs.Prelude.{cond, ℕ, ◌+◌, ◌*◌}
use Rattle.records.specs.declared.Sizes.{Sizes}
use Rattle.records.specs.Sizes.{sizes_within}
use Rattle.image.specs.declared.Places.{Places}
use Rattle.image.specs.Image.{header_width, sizes_width, image_length}
use Rattle.image.specs.Records.{node_width, client_width}

abbrev pub places_of : Sizes → Places
places_of z =
    record {
      clients = header_width + sizes_width + z.n * node_width;
      blocks = header_width + sizes_width + z.n * node_width + z.m * client_width;
      differences = header_width + sizes_width + z.n * node_width + z.m * client_width + z.n * z.b;
      spare = header_width + sizes_width + z.n * node_width + z.m * client_width + z.n * z.b + z.m * z.b;
      end = image_length z;
    }

-- the length; sizes outside the limits have no image, and 0 stands for it
abbrev pub length_by : Sizes → ℕ
length_by z = cond (sizes_within z) (image_length z) 0

-- the longest: of 18 nodes and 8 clients, with blocks of 4,096 bytes (proofs/Longest.antt)
abbrev pub image_most : ℕ
image_most = 183884
