-- `kernel::combine` meets its contract: after each tile the bytes of all blocks up to its end are there. Assumes nothing.
use mathlib.Core.List.{List, ◌++◌}
use mathlib.Core.Path.{◌≡◌, refl, sym}
use Prim.Native.Nat.{ℕ}
use native.Mathlib.Omega.{arith}
use lib.ListN.{length, take, drop, length-append, length-drop}
use lib.Seq.{length-take-le, take_at}
use Rattle.blocks.proofs.Parts.{bytes_of}
use Rattle.kernel.proofs.Highest.{zeroed}
use Rattle.kernel.proofs.Columns.{columns-none, columns-turn, columns-all}
use borrow.Author.Rules.{rules}
use Rattle.kernel.proofs.combine.Goals as goal

-- the sums, and the bytes after them
whole : (d rest : List ℕ) → length d ≡ 12288 → length (take 12288 (d ++ rest)) ≡ 12288
whole d rest e = length-take-le 12288 (d ++ rest) (omega (arith, length-append d rest))

rest : (s d : List ℕ) → length s ≡ 12296 → length d ≡ 12288 → length (d ++ drop 12288 s) ≡ 12296
rest s d es ed = omega (arith, length-append d (drop 12288 s), length-drop 12288 s)

pub loop-p-init : goal.loop-p-init
loop-p-init c = (search rules, refl, columns-none _ _ _ _ _ _ c.requires.1)

pub slice_bounds-s-end : goal.slice_bounds-s-end
slice_bounds-s-end c = omega (arith, c.loop-p.invariant.1)

pub slice_bounds-tile_sums-end : goal.slice_bounds-tile_sums-end
slice_bounds-tile_sums-end c = sym (length-take-le 12288 c.loop-p.s (omega (arith, c.loop-p.invariant.1)))

pub tile_sums-requires : goal.tile_sums-requires
tile_sums-requires c = (
  length-take-le 12288 c.loop-p.s (omega (arith, c.loop-p.invariant.1)),
  omega (arith, c.min-n.ensures),
  record { twelve = c.requires.3.twelve; fits = λ q h. omega (arith, c.requires.3.fits q h) },
)

pub slice_bounds-s-end-in-loop-p : goal.slice_bounds-s-end-in-loop-p
slice_bounds-s-end-in-loop-p c = omega (arith, rest c.loop-p.s c.tile_sums.new.s c.loop-p.invariant.1 c.tile_sums.ensures.size)

pub slice_bounds-fill_all-end : goal.slice_bounds-fill_all-end
slice_bounds-fill_all-end c = sym (whole c.tile_sums.new.s (drop 12288 c.loop-p.s) c.tile_sums.ensures.size)

pub fill_all-requires : goal.fill_all-requires
fill_all-requires c = (
  c.requires.0,
  omega arith,
  omega (arith, c.min-n.ensures),
  c.loop-p.invariant.2.size,
  whole c.tile_sums.new.s (drop 12288 c.loop-p.s) c.tile_sums.ensures.size,
  rw (take_at c.tile_sums.new.s (drop 12288 c.loop-p.s) 12288 c.tile_sums.ensures.size) (zeroed _ _ _ _ _ c.tile_sums.ensures),
)

pub loop-p-smaller : goal.loop-p-smaller
loop-p-smaller c = omega (arith, c.min-n.ensures)

pub loop-p-preserved : goal.loop-p-preserved
loop-p-preserved c = let args = c.args in
    let sums = c.tile_sums.new.s in
    let only = take_at sums (drop 12288 c.loop-p.s) 12288 c.tile_sums.ensures.size in (
      omega arith,
      rest c.loop-p.s sums c.loop-p.invariant.1 c.tile_sums.ensures.size,
      columns-turn args.m args.b args.t.now args.starts.now args.rows.now c.loop-p.p c.min-n.result sums c.pack_all-plan.result
          c.loop-p.out c.fill_all.new.out c.requires.3.twelve c.requires.2 (bytes_of args.t.now c.shared_slice_known-1.given)
          (bytes_of args.rows.now c.shared_slice_known-2-1.given) c.pack_all-plan.ensures c.tile_sums.ensures
          (rw only at c.fill_all.ensures) c.loop-p.invariant.2,
    )

pub returns : goal.returns
returns c = columns-all _ _ _ _ _ c.loop-p.p _ (omega arith) c.loop-p.invariant.2
