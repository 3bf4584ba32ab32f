-- The tests, in order; then the weaken in its phase. Assumes nothing.
use mathlib.Core.Path.{sym, ◌∙◌}
use Rattle.machine.specs.Rebuild.{weaken}
use Rattle.records.specs.View.{client_of}
use Rattle.calls.specs.Answers.{whole}
use Rattle.rebuild.proofs.Limits.{admitted}
use Rattle.rebuild.proofs.Phases.{picks-out}
use Rattle.rebuild.proofs.Stepping.{steps-refused, steps-turned, steps_on}
use Rattle.locking.proofs.weakens.weaken.Goals as goal

pub weaken_now-requires : goal.weaken_now-requires
weaken_now-requires c = (admitted c.args.c c.entrance.ensures c.in-Ok.is, sym c.is_picking.ensures ∙ c.if-is_picking.true)

pub returns-in-Err : goal.returns-in-Err
unfolding weaken
returns-in-Err c nodes blocks spare t = steps-turned t c.entrance.ensures _ c.in-Err.is c.refused.ensures

pub returns-then-is_picking : goal.returns-then-is_picking
returns-then-is_picking c = c.weaken_now.ensures

pub returns-else-is_picking : goal.returns-else-is_picking
unfolding weaken
returns-else-is_picking c nodes blocks spare t = let a = c.args in
    steps_on t c.entrance.ensures c.in-Ok.is
    (steps-refused t c.refused-else-is_picking.ensures
    (picks-out (whole nodes (client_of a.client) blocks spare) _ (sym c.is_picking.ensures ∙ c.if-is_picking.false)))
