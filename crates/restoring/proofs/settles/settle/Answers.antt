-- By the entrance's answer. Assumes nothing.
use borrow.Author.Rules.{rules}
use Rattle.machine.specs.Rebuild.{settle}
use Rattle.rebuild.proofs.Limits.{admitted}
use Rattle.rebuild.proofs.Stepping.{steps-turned}
use Rattle.restoring.proofs.settles.settle.Goals as goal

pub entrance-requires : goal.entrance-requires
unfolding settle
entrance-requires c = search rules

pub enum_known-why : goal.enum_known-why
unfolding settle
enum_known-why c = search rules

pub refused-requires : goal.refused-requires
unfolding settle
refused-requires c = search rules

pub enum_told-1 : goal.enum_told-1
unfolding settle
enum_told-1 c = search rules

pub settle_in-requires : goal.settle_in-requires
unfolding settle
settle_in-requires c = admitted c.args.c c.entrance.ensures c.in-Ok.is

pub returns-in-Err : goal.returns-in-Err
unfolding settle
returns-in-Err c nodes blocks spare t = steps-turned t c.entrance.ensures _ c.in-Err.is c.refused.ensures

pub returns-in-Ok : goal.returns-in-Ok
unfolding settle
returns-in-Ok c = c.settle_in.ensures
