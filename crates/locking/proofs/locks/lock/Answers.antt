-- By the entrance's answer. Assumes nothing.
use borrow.Author.Rules.{rules}
use Rattle.machine.specs.Rebuild.{lock}
use Rattle.rebuild.proofs.Limits.{admitted}
use Rattle.rebuild.proofs.Stepping.{steps-turned}
use Rattle.locking.proofs.locks.lock.Goals as goal

pub entrance-requires : goal.entrance-requires
unfolding lock
entrance-requires c = search rules

pub enum_known-why : goal.enum_known-why
unfolding lock
enum_known-why c = search rules

pub refused-requires : goal.refused-requires
unfolding lock
refused-requires c = search rules

pub enum_told-1 : goal.enum_told-1
unfolding lock
enum_told-1 c = search rules

pub lock_in-requires : goal.lock_in-requires
unfolding lock
lock_in-requires c = admitted c.args.c c.entrance.ensures c.in-Ok.is

pub returns-in-Err : goal.returns-in-Err
unfolding lock
returns-in-Err c nodes blocks spare t = steps-turned t c.entrance.ensures _ c.in-Err.is c.refused.ensures

pub returns-in-Ok : goal.returns-in-Ok
unfolding lock
returns-in-Ok c = c.lock_in.ensures
