-- A store at item j - 1. Assumes nothing.
use native.Mathlib.Omega.{arith}
use Rattle.stripe.proofs.NodeLists.{eighteen, node-set}
use Rattle.stripe.proofs.nodes.Nodes.set.Goals as goal

pub returns : goal.returns
returns c n = node-set n c.args.self c.args.j c.args.node (omega arith) (omega (arith, eighteen c.args.self _ c.well_formed.0))
