-- Some id. Assumes nothing.
use Rattle.std.proofs.Common.{rules, tests, ◌∙◌}
use Rattle.entries.specs.Entries.{same_id}
use Rattle.entries.specs.View.{blank_id, ids_of}
use Rattle.entries.proofs.Lists.{is_in-some}
use Rattle.entries.proofs.write_ids.Few+WriteId+N.has.Goals as goal

pub returns : goal.returns
returns g c = let a = c.args in
    c.any.ensures (λ x. same_id x a.id) (λ x b q. search (rules, tests)) blank_id ∙ is_in-some a.id (ids_of a.self)
