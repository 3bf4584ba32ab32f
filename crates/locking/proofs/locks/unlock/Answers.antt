-- By the entrance's answer. Assumes nothing.
use borrow.Author.Rules.{rules}
use Rattle.machine.specs.Rebuild.{unlock}
use Rattle.rebuild.proofs.Limits.{admitted}
use Rattle.rebuild.proofs.Stepping.{steps-turned}
use Rattle.locking.proofs.locks.unlock.Goals as goal

pub entrance-requires : goal.entrance-requires
unfolding unlock
entrance-requires c = search rules

pub enum_known-why : goal.enum_known-why
unfolding unlock
enum_known-why c = search rules

pub refused-requires : goal.refused-requires
unfolding unlock
refused-requires c = search rules

pub enum_told-1 : goal.enum_told-1
unfolding unlock
enum_told-1 c = search rules

pub unlock_in-requires : goal.unlock_in-requires
unfolding unlock
unlock_in-requires c = admitted c.args.c c.entrance.ensures c.in-Ok.is

pub returns-in-Err : goal.returns-in-Err
unfolding unlock
returns-in-Err c nodes blocks spare t = steps-turned t c.entrance.ensures _ c.in-Err.is c.refused.ensures

pub returns-in-Ok : goal.returns-in-Ok
unfolding unlock
returns-in-Ok c = c.unlock_in.ensures
