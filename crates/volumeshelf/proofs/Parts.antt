-- The parts of a call's stripe lie in their tables. Assumes nothing.
use Prim.Native.Nat.{ℕ}
use Rattle.parts.proofs.Part.{Within}
use Rattle.routing.specs.declared.Request.{Request}
use Rattle.volumeshelf.specs.Entry.{blocks_part, clients_part, differences_part, nodes_part}
use Rattle.tables.specs.Parts.{table_blocks, table_differences}
use Rattle.tables.proofs.Parts.{part-within}

pub nodes_within : (q : Request) (len : ℕ) → Within (nodes_part q len) len
nodes_within q = part-within q.stripe q.volume.z.n

pub clients_within : (q : Request) (len : ℕ) → Within (clients_part q len) len
clients_within q = part-within q.stripe q.volume.z.m

pub blocks-within : (q : Request) (len : ℕ) → Within (blocks_part q len) len
blocks-within q = part-within q.stripe (table_blocks q.volume.z)

pub differences-within : (q : Request) (len : ℕ) → Within (differences_part q len) len
differences-within q = part-within q.stripe (table_differences q.volume.z)
