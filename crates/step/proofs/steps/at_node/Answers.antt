-- By cases of the call. Assumes nothing.
use Rattle.step.proofs.Shapes.{of-client}
use Rattle.step.proofs.steps.at_node.Goals as goal

pub returns-in-Add : goal.returns-in-Add
returns-in-Add c = rw c.in-Add.is c.add.ensures

pub returns-in-Check : goal.returns-in-Check
returns-in-Check c = rw c.in-Check.is (of-client c.beside.ensures (c.check.ensures _ _))
