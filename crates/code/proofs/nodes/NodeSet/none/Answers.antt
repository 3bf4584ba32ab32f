-- `code::nodes::NodeSet::none` meets its contract. Assumes nothing.
use mathlib.Core.Path.{refl}
use Rattle.basics.specs.Lists.{list_of}
use Rattle.code.specs.Decode.{set_of}
use Rattle.code.specs.View.{node_set_of}
use Rattle.code.proofs.nodes.NodeSet.none.Goals as goal

pub returns : goal.returns
unfolding set_of list_of node_set_of
returns c = refl
