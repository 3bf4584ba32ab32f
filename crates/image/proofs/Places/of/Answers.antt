-- `image::Places::of` meets its contract: every length is small. Assumes nothing.
use mathlib.Core.Path.{◌≡◌}
use Prim.Native.Nat.{◌+◌}
use native.Mathlib.Omega.{arith}
use Rattle.image.specs.Image.{image_length}
use Rattle.image.proofs.Limits.{small}
use Rattle.image.proofs.Places.of.Goals as goal

pub times-table-requires : goal.times-table-requires
times-table-requires c = let s = small c.args.z c.requires in (s.n, s.b)

pub times-requires : goal.times-requires
times-requires c = let s = small c.args.z c.requires in (s.n, omega arith)

pub times-requires-2 : goal.times-requires-2
times-requires-2 c = let s = small c.args.z c.requires in (omega (arith, s.m), omega arith)

pub times-requires-3 : goal.times-requires-3
times-requires-3 c = let s = small c.args.z c.requires in (omega (arith, s.m), s.b)

pub returns : goal.returns
unfolding image_length
returns c = let d = c.times-3.ensures.0 in
    let m = c.times-2.ensures.0 in
    let n = c.times.ensures.0 in
    let t = c.times-table.ensures.0 in
    let z = c.args.z in
    let ends : 60 + c.times.result + c.times-2.result + c.times-table.result + c.times-3.result + c.times-table.result ≡ image_length z
    = omega (arith, d, m, n, t) in
    λ i. record {
      clients = 60 + n i;
      blocks = 60 + n i + m i;
      differences = 60 + n i + m i + t i;
      spare = 60 + n i + m i + t i + d i;
      end = ends i;
    }
