-- How a set of nodes of the code is seen as that of the definitions: node j is in it if bit j − 1 is 1. Bits past the 18th say nothing. Assumes nothing.
use Rattle.std.specs.Prelude.{◌-◌, ◌/◌, ◌%◌, ◌^◌, eqb}
use Rattle.code.specs.Decode.{NodeSet, set_of}
use Rattle.code.specs.declared.nodes.NodeSet as Declared

unfoldable pub node_set_of : Declared.NodeSet → NodeSet
node_set_of s = set_of (λ j. eqb (s.bits / 2 ^ (j - 1) % 2) 1)
