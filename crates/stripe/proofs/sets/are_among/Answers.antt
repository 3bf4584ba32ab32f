-- Each id. Assumes nothing.
use Rattle.std.proofs.Common.{rules, tests}
use Rattle.entries.specs.Entries.{is_in}
use Rattle.entries.specs.View.{blank_id, ids_of}
use Rattle.stripe.proofs.sets.are_among.Goals as goal

pub returns : goal.returns
returns c = c.all.ensures (λ x. is_in x (ids_of c.args.others)) (λ x b q. search (rules, tests)) blank_id
