-- The count, then the pairs. Assumes nothing.
use mathlib.Core.Path.{◌≡◌, refl}
use Prim.Native.Nat.{◌+◌}
use native.Mathlib.Omega.{arith}
use lib.ListN.{length, get_or}
use Rattle.octets.specs.Octets.{word_bytes, joined}
use Rattle.octets.proofs.Filling.{fill, filled_none, filled_put}
use Rattle.octets.proofs.Pieces.{length-joined}
use Rattle.image.specs.Places.{places_of}
use Rattle.image.proofs.Sections.{length-header}
use Rattle.imaging.specs.Imaging.{pair_bytes}
use Rattle.imaging.proofs.Header.{bounds_of, bounds-rise, header-pairs}
use Rattle.imaging.proofs.Laws.{rising}
use Rattle.imaging.proofs.head.put_header.Goals as goal

pub put_pairs-requires : goal.put_pairs-requires
put_pairs-requires c = (omega (arith, c.put.ensures.long, c.requires.1), bounds-rise c.args.z c.of-p.result (rising c.args.z c.of-p.result c.requires.0 c.of-p.ensures))

pub returns : goal.returns
returns c = let z = c.args.z in
    let bounds = bounds_of (places_of z) in
    let pairs = joined 6 (λ i. pair_bytes (get_or bounds i 0) (get_or bounds (i + 1) 0)) in
    let long : length pairs ≡ 48 = length-joined 8 6 (λ i. pair_bytes (get_or bounds i 0) (get_or bounds (i + 1) 0)) (λ i l. refl) in
    filled_put {next = 52}
    (rw (← header-pairs z)
    (fill 48 52 pairs (fill 4 4 (word_bytes 6) (filled_none c.args.out.now) c.put.ensures c.word_bytes.ensures refl refl) c.put_pairs.ensures
    (λ i. joined 6 (λ j. pair_bytes (get_or (bounds_of (c.of-p.ensures i)) j 0) (get_or (bounds_of (c.of-p.ensures i)) (j + 1) 0))) long refl))
    (omega (arith, length-header z))
