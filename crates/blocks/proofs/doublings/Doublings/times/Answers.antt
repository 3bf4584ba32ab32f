-- `blocks::doublings::Doublings::times` meets its contract: its steps are those of the product by bits. Assumes nothing.
use mathlib.Core.Path.{sym}
use borrow.Author.Rules.{rules}
use Rattle.gf256.proofs.Laws.{product-bits}
use Rattle.gf256.specs.Field.{times_bits}
use Rattle.blocks.proofs.doublings.Doublings.times.Goals as goal

pub returns : goal.returns
unfolding times_bits
returns c = let d = c.args.self.doubled in
    rw (c.add_bit.ensures, c.add_bit-p1.ensures, c.add_bit-p2.ensures, c.add_bit-p3.ensures, c.add_bit-p4.ensures)
    (rw (c.add_bit-p5.ensures, c.add_bit-p6.ensures, c.add_bit-p7.ensures, d.6, d.5, d.4, d.3, d.2, d.1, d.0)
    (sym (product-bits c.args.self.c0 c.args.s (search rules) (search rules))))
