-- A count of 0. Assumes nothing.
use Rattle.entries.specs.View.{blank_entry}
use Rattle.entries.proofs.Lists.{entries-none}
use Rattle.entries.proofs.node_entries.Entries.none.Goals as goal

pub returns : goal.returns
returns c = entries-none c.empty.result (c.empty.ensures blank_entry)
