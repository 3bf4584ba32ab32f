-- `gf256::inverse` meets its contract: the logarithm of the inverse is 255 less that of a. Assumes nothing.
use mathlib.Core.Path.{◌∙◌}
use Rattle.gf256.specs.Field.{inverse}
use Rattle.gf256.proofs.Laws.{unless, inverse-zero, inverse-by-logarithm}
use Rattle.gf256.proofs.inverse.Goals as goal

pub returns : goal.returns
returns c = let i = c.own_logarithm in
    let a = c.args.a in
    unless a (inverse a) c.unless_zero.ensures (λ z. rw z inverse-zero)
    (λ p. c.own_power-r.ensures ∙ inverse-by-logarithm i.result a i.ensures.0 (i.ensures.1 ∙ c.index.ensures.3 p))
