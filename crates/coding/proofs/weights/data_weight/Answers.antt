-- `coding::weights::data_weight` meets its contract: the logarithm of the inverse is 255 less that of the sum of the points. Assumes nothing.
use mathlib.Core.Path.{sym, ◌∙◌}
use native.Mathlib.Omega.{arith}
use Rattle.coding.proofs.Encoded.{weight-out, weight-nonzero, weight-by-logarithm}
use Rattle.coding.proofs.weights.data_weight.Goals as goal

pub returns-then-k-i : goal.returns-then-k-i
returns-then-k-i c = sym (weight-out _ _ _ (omega arith))

pub overflow_cast-j-2 : goal.overflow_cast-j-2
overflow_cast-j-2 c = let args = c.args in
    omega (arith, (weight-nonzero args.k args.j args.i (omega arith) (omega arith) (omega arith)).1)

pub logarithm-apart-requires : goal.logarithm-apart-requires
logarithm-apart-requires c = let args = c.args in
    let apart = weight-nonzero args.k args.j args.i (omega arith) (omega arith) (omega arith) in
    (c.requires.1, apart.0, apart.1)

pub returns : goal.returns
returns c = let args = c.args in
    c.power.ensures ∙ weight-by-logarithm args.k args.j args.i (omega arith) c.logarithm-apart.result c.logarithm-apart.ensures.0 c.logarithm-apart.ensures.1
