-- `coding::weights::others` meets its contract: the logarithms of the two spans add. Assumes nothing.
use mathlib.Core.Path.{ap₂, ◌∙◌}
use Prim.Native.Nat.{◌-◌}
use native.Mathlib.Omega.{arith}
use lib.ListN.{length}
use Rattle.gf256.specs.Field.{product}
use Rattle.gf256.proofs.Laws.{power-add}
use Rattle.kernel.specs.Combine.{nth}
use Rattle.coding.proofs.Weighing.{two-spans}
use Rattle.coding.proofs.weights.others.Goals as goal

pub span-requires : goal.span-requires
span-requires c = let pre = c.requires in
    (pre.0, pre.1, omega arith, omega arith, λ l h e. pre.4 l (omega arith) (omega arith), pre.5, pre.6)

pub span-requires-2 : goal.span-requires-2
span-requires-2 c = let pre = c.requires in
    (pre.0, pre.1, omega arith, omega arith, λ l h e. pre.4 l e (omega arith), pre.5, pre.6)

pub overflow_add-result : goal.overflow_add-result
overflow_add-result c = omega (arith, c.requires.1.few, c.span-2.ensures.1, c.span.ensures.1)

pub returns : goal.returns
returns c = let before = c.span in
    let after = c.span-2 in
    let args = c.args in
    let nodes = args.nodes.now in (
      power-add before.result after.result ∙ ap₂ product before.ensures.0 after.ensures.0
          ∙ two-spans (nth nodes) (args.j - 1) (length nodes) args.q (omega arith) (omega arith),
      omega (arith, c.requires.1.few, before.ensures.1, after.ensures.1),
    )
