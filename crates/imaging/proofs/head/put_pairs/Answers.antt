-- The first i pairs stand in the buffer. Assumes nothing.
use mathlib.Core.Path.{refl}
use Prim.Native.Nat.{◌+◌}
use lib.ListN.{get_or}
use Rattle.imaging.specs.Imaging.{pair_bytes}
use Rattle.imaging.proofs.Items.{items-none, items_more, items-room, items-all}
use Rattle.imaging.proofs.head.put_pairs.Goals as goal

pub loop-i-init : goal.loop-i-init
loop-i-init c = let a = c.args in items-none 8 6 (λ j. pair_bytes (get_or a.bounds j 0) (get_or a.bounds (j + 1) 0)) (λ j. refl) a.out.now 4

pub pair_bytes-pair-requires : goal.pair_bytes-pair-requires
pair_bytes-pair-requires c = let r = c.requires.1 in
    (r.rise c.loop-i.i c.loop-i-test.true, r.small c.loop-i.i c.loop-i-test.true)

pub put-requires : goal.put-requires
put-requires c = let a = c.args in
    items-room 8 6 (λ j. pair_bytes (get_or a.bounds j 0) (get_or a.bounds (j + 1) 0)) (λ j. refl) a.out.now 4 c.loop-i.invariant c.loop-i-test.true
    c.pair_bytes-pair.ensures c.requires.0

pub loop-i-preserved : goal.loop-i-preserved
loop-i-preserved c = let a = c.args in
    items_more 8 6 (λ j. pair_bytes (get_or a.bounds j 0) (get_or a.bounds (j + 1) 0)) (λ j. refl) a.out.now 4 c.loop-i.invariant c.put.ensures
    c.loop-i-test.true c.pair_bytes-pair.ensures

pub shape_of-out : goal.shape_of-out
shape_of-out c = c.loop-i.invariant.filled.long

pub returns : goal.returns
returns c = let a = c.args in
    items-all 8 6 (λ j. pair_bytes (get_or a.bounds j 0) (get_or a.bounds (j + 1) 0)) (λ j. refl) a.out.now 4 c.loop-i.invariant c.loop-i-test.false
