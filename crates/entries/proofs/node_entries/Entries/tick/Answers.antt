-- Each entry. Assumes nothing.
use Rattle.std.proofs.Common.{rules, sym, ◌∙◌}
use Rattle.entries.specs.Entries.{aged_entry}
use Rattle.entries.specs.View.{entries_of, blank_entry}
use Rattle.entries.proofs.Lists.{aged-map, changed-each}
use Rattle.entries.proofs.node_entries.Entries.tick.Goals as goal

pub returns : goal.returns
returns c = let s = c.args.self in
    changed-each aged_entry s c.map.result c.map.ensures.count (λ i h. let q = c.map.ensures.each blank_entry i h in search rules)
    ∙ sym (aged-map (entries_of s))
