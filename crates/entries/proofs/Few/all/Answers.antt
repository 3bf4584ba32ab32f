-- The first count items. Assumes nothing.
use Rattle.std.proofs.Common.{length, take, arith, rules, ◌≡◌, ◌∙◌}
use Rattle.std.proofs.lemmas.Iterator.{YieldsList-from_slice}
use Rattle.std.proofs.lemmas.Iterator.Search.{all_from_yields_List}
use Rattle.entries.proofs.Lists.{all-item}
use Rattle.entries.proofs.Few.all.Goals as goal

pub returns : goal.returns
returns g c p h d = let s = c.args.self in
    let room : length s.items ≡ g.row.N = search rules in
    all_from_yields_List p _ _ _ c.all.ensures.ran (YieldsList-from_slice (take s.count s.items) cc) (λ x b q k. search (rules, h))
    ∙ all-item s d (omega (arith, room, c.requires.room)) p
