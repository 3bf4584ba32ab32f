-- `coding::decode_sized` meets its contract. Assumes nothing.
use mathlib.Core.Path.{sym, ap, ◌∙◌}
use native.Mathlib.Omega.{arith}
use Rattle.code.specs.Decode.{size}
use Rattle.coding.proofs.Decoded.{decoding-outside, decoding-few, decoding-accepted, given-held}
use Rattle.code.proofs.Sizes.{sizes-of}
use Rattle.coding.proofs.decode_sized.Goals as goal

pub returns-then-some_outside : goal.returns-then-some_outside
returns-then-some_outside c = let args = c.args in
    let pre = c.requires in
    decoding-outside args.k args.n args.b args.nodes.now args.blocks.now args.out.now pre.0 pre.1 pre.2 (sym c.some_outside.ensures ∙ c.if-some_outside.true)

pub returns-then-size-k : goal.returns-then-size-k
returns-then-size-k c = let args = c.args in
    let pre = c.requires in
    let inside = sym c.some_outside.ensures ∙ c.if-some_outside.false in
    let counted = c.size-size.ensures.0 ∙ ap size c.set_of-set.ensures in
    let few = decoding-few args.k args.n args.b args.nodes.now args.blocks.now args.out.now pre.0 pre.1 pre.2 inside (omega arith) in
    rw (few, ← counted)

pub recover_table-requires : goal.recover_table-requires
recover_table-requires c = let args = c.args in
    let pre = c.requires in
    let inside = sym c.some_outside.ensures ∙ c.if-some_outside.false in
    let counted = c.size-size.ensures.0 ∙ ap size c.set_of-set.ensures in
    let sizes = sizes-of args.k args.n args.b pre.0 in
    (sizes.data_most, omega arith, omega arith, sizes.block_most, pre.2, rw c.set_of-set.ensures (given-held args.k args.n args.b args.nodes.now args.blocks.now args.out.now pre.0 pre.1 pre.2 inside))

pub returns : goal.returns
returns c = let args = c.args in
    let pre = c.requires in
    let inside = sym c.some_outside.ensures ∙ c.if-some_outside.false in
    let counted = c.size-size.ensures.0 ∙ ap size c.set_of-set.ensures in
    rw (c.recover_table.ensures, c.set_of-set.ensures) (decoding-accepted args.k args.n args.b args.nodes.now args.blocks.now args.out.now pre.0 pre.1 pre.2 inside (omega arith))
