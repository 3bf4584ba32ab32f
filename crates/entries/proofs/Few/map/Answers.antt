-- The first i items are changed. Assumes nothing.
use Rattle.std.proofs.Common.{◌≡◌, length, refl, arith, rules}
use Rattle.entries.proofs.Lists.{change-start, change-on}
use Rattle.entries.proofs.Few.map.Goals as goal

pub loop-i-init : goal.loop-i-init
loop-i-init g c = (refl, change-start)

pub loop-i-preserved : goal.loop-i-preserved
loop-i-preserved g c = let room : length c.args.self.items ≡ g.row.N = search rules in
    let q = c.loop-i.invariant.1 in
    (c.loop-i.invariant.0, change-on q (omega (arith, room, q.places, c.requires.room)) c.index-self-i.result c.change.result c.change.ensures)

pub returns-clause-each : goal.returns-clause-each
returns-clause-each g c d i h = c.loop-i.invariant.1.done d i (omega arith)
