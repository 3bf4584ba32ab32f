-- `gf256::product` meets its contract: logarithms add, and a product with 0 is 0. Assumes nothing.
use mathlib.Core.Path.{ap₂, ◌∙◌}
use Rattle.gf256.specs.Field.{product}
use Rattle.gf256.proofs.Laws.{unless, zero-product, product-zero, power-add}
use Rattle.gf256.proofs.product.Goals as goal

pub returns : goal.returns
returns c = let i = c.logarithm-i in
    let j = c.logarithm-j in
    let args = c.args in
    let a = args.a in
    let b = args.b in
    unless a (product a b) c.unless_zero-2.ensures (λ z. rw z (zero-product b))
    (λ p. unless b (product a b) c.unless_zero.ensures (λ z. rw z (product-zero a))
    (λ q. c.own_power.ensures ∙ power-add i.result j.result
    ∙ ap₂ product (i.ensures.1 ∙ c.index.ensures.3 p) (j.ensures.1 ∙ c.index-2.ensures.3 q)))
