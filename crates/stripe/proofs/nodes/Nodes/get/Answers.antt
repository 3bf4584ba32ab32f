-- Node j is item j - 1. Assumes nothing.
use mathlib.Core.Path.{sym}
use native.Mathlib.Omega.{arith}
use Rattle.stripe.proofs.NodeLists.{node_at_lem}
use Rattle.stripe.proofs.nodes.Nodes.get.Goals as goal

pub returns : goal.returns
returns c n h = sym (node_at_lem n c.args.self c.args.j (omega arith) h)
