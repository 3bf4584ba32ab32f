-- One entry more. Assumes nothing.
use Rattle.entries.specs.View.{blank_entry}
use Rattle.entries.proofs.Lists.{entries-push}
use Rattle.entries.proofs.node_entries.Entries.enter.Goals as goal

pub returns : goal.returns
returns c = rw (entries-push c.args.self _ _ (c.push.ensures blank_entry), c.new.ensures)
