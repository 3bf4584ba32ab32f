-- By the entrance's answer. Assumes nothing.
use borrow.Author.Rules.{rules}
use Rattle.machine.specs.Rebuild.{tighten}
use Rattle.rebuild.proofs.Limits.{admitted}
use Rattle.rebuild.proofs.Stepping.{steps-turned}
use Rattle.locking.proofs.locks.tighten.Goals as goal

pub entrance-requires : goal.entrance-requires
unfolding tighten
entrance-requires c = search rules

pub enum_known-why : goal.enum_known-why
unfolding tighten
enum_known-why c = search rules

pub refused-requires : goal.refused-requires
unfolding tighten
refused-requires c = search rules

pub enum_told-1 : goal.enum_told-1
unfolding tighten
enum_told-1 c = search rules

pub tighten_in-requires : goal.tighten_in-requires
unfolding tighten
tighten_in-requires c = admitted c.args.c c.entrance.ensures c.in-Ok.is

pub returns-in-Err : goal.returns-in-Err
unfolding tighten
returns-in-Err c nodes blocks spare t = steps-turned t c.entrance.ensures _ c.in-Err.is c.refused.ensures

pub returns-in-Ok : goal.returns-in-Ok
unfolding tighten
returns-in-Ok c = c.tighten_in.ensures
