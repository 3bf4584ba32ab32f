-- Each entry. Assumes nothing.
use Rattle.std.proofs.Common.{rules, sym, ◌∙◌}
use Rattle.entries.specs.Entries.{marked_entry}
use Rattle.entries.specs.View.{entries_of, blank_entry, ids_of}
use Rattle.entries.proofs.Lists.{mark_old-map, changed-each}
use Rattle.entries.proofs.node_entries.Entries.mark_old.Goals as goal

pub returns : goal.returns
returns c = let s = c.args.self in
    changed-each (marked_entry (ids_of c.args.ids)) s c.map.result c.map.ensures.count (λ i h. let q = c.map.ensures.each blank_entry i h in search rules)
    ∙ sym (mark_old-map (ids_of c.args.ids) (entries_of s))
