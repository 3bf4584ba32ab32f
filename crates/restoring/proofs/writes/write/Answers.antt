-- By the tests' answer. Assumes nothing.
use Rattle.machine.specs.Rebuild.{write}
use Rattle.rebuild.proofs.Stepping.{steps-refused}
use Rattle.rebuild.proofs.Tabled.{tabled-admitted, tabled-tables, tabled-failed}
use Rattle.restoring.proofs.writes.write.Goals as goal

pub write_in-requires : goal.write_in-requires
write_in-requires c = let a = c.before.args in
    let e = c.tabled_entrance.ensures in
    (tabled-admitted a.z a.c a.seen a.client a.blocks.now a.spare.now e c.in-Ok.is, tabled-tables a.z a.c a.seen a.client a.blocks.now a.spare.now e c.in-Ok.is)

pub returns-in-Err : goal.returns-in-Err
unfolding write
returns-in-Err c nodes t = let a = c.before.args in
    steps-refused t c.refused.ensures (tabled-failed a.z a.c a.seen a.client a.blocks.now a.spare.now c.tabled_entrance.ensures t.sees _ c.in-Err.is)

pub returns-in-Ok : goal.returns-in-Ok
returns-in-Ok c = c.write_in.ensures
