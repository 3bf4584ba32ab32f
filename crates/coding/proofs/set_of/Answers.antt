-- `coding::set_of` meets its contract: after i turns the set has the first i nodes. Assumes nothing.
use mathlib.Core.Path.{◌∙◌}
use native.Mathlib.Omega.{arith}
use Rattle.code.specs.Calls.{is_in}
use Rattle.coding.proofs.Given.{given-next, given-all}
use Rattle.coding.proofs.set_of.Goals as goal

pub loop-j-init : goal.loop-j-init
unfolding is_in
loop-j-init c = c.none-set.ensures

pub loop-j-preserved : goal.loop-j-preserved
loop-j-preserved c = let nodes = c.args.nodes.now in
    rw (c.with-set.ensures, c.loop-j.invariant) (given-next nodes c.loop-j.j-index (omega arith))

pub returns : goal.returns
returns c = c.loop-j.invariant ∙ given-all c.args.nodes.now c.loop-j.j-index (omega arith)
