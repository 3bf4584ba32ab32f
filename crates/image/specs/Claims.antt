-- Change request C-13: what is proved of images, each over all sizes and stripes that the call accepts. Assumes nothing.
use Rattle.std.specs.Prelude.{true, List, ◌≡◌, ℕ, suc, ◌+◌, ◌<◌, length}
use Rattle.octets.specs.Octets.{word_at}
use Rattle.machine.specs.Stripe.{Stripe}
use Rattle.records.specs.declared.Sizes.{Sizes}
use Rattle.image.specs.Image.{header_width, sizes_bytes, nodes_bytes, clients_bytes, image, image_length, writable}
use Rattle.image.specs.Reading.{offset_at, length_at, section_at, state_from}

-- "the sizes alone fix the length"
abbrev pub FixedLength : Type 0
FixedLength = (z : Sizes) (s : Stripe) → writable z s ≡ true → length (image z s) ≡ image_length z

-- "a count of 6, then six pairs of offset and length, sorted by offset, which counts from the image's first byte"; "The sections follow without gaps:
-- sizes, node records, client records, blocks, differences, spare"
pub record Located (z : Sizes) (s : Stripe) (b : List ℕ) : Type 0 where
  pub count : word_at b 0 ≡ 6
  pub begins : offset_at b 0 ≡ header_width
  pub follows : (i : ℕ) → i < 5 → offset_at b (suc i) ≡ offset_at b i + length_at b i
  pub ends : offset_at b 5 + length_at b 5 ≡ length b
  pub sizes : section_at b 0 ≡ sizes_bytes z
  pub nodes : section_at b 1 ≡ nodes_bytes s.nodes
  pub clients : section_at b 2 ≡ clients_bytes s.clients
  pub blocks : section_at b 3 ≡ s.blocks
  pub differences : section_at b 4 ≡ s.differences
  pub spare : section_at b 5 ≡ s.spare

abbrev pub Sections : Type 0
Sections = (z : Sizes) (s : Stripe) → writable z s ≡ true → Located z s (image z s)

-- the reading function gives the state back
abbrev pub ReadBack : Type 0
ReadBack = (z : Sizes) (s : Stripe) → writable z s ≡ true → state_from (image z s) ≡ record { sizes = z; stripe = s }

-- "Equal states give equal bytes, unequal ones unequal bytes"
abbrev pub EqualBytes : Type 0
EqualBytes = (z z' : Sizes) (s s' : Stripe) → z ≡ z' → s ≡ s' → image z s ≡ image z' s'

abbrev pub UnequalBytes : Type 0
UnequalBytes = (z z' : Sizes) (s s' : Stripe) → writable z s ≡ true → writable z' s' ≡ true → image z s ≡ image z' s' → (z ≡ z') × (s ≡ s')
