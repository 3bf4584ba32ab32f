-- By cases of the call, a lemma for each shape. Assumes nothing.
use mathlib.Core.Path.{refl}
use Rattle.machine.specs.Calls.{step, step_at}
use Rattle.machine.specs.Writing as Writing
use Rattle.machine.specs.Failure as Failure
use Rattle.machine.specs.Aging as Aging
use Rattle.step.proofs.Shapes.{steps-kept, steps-tick, of_node, of-answer}
use Rattle.step.proofs.steps.step.Goals as goal

pub returns-in-Swap : goal.returns-in-Swap
unfolding step
returns-in-Swap c = let args = c.args in
    rw c.in-Swap.is
    (steps-kept args.z _ args.seen args.node args.client args.value.now args.blocks.now args.spare.now args.differences.now _ _ _
    (Writing.swap args.z _ _ args.value.now) (λ s. refl) c.kept.ensures c.swap.ensures)

pub returns-in-Fail : goal.returns-in-Fail
unfolding step
returns-in-Fail c = let args = c.args in
    rw c.in-Fail.is
    (steps-kept args.z _ args.seen args.node args.client args.value.now args.blocks.now args.spare.now args.differences.now _ _ _
    (Failure.fail args.z _ args.value.now) (λ s. refl) c.kept-in-Fail.ensures (of_node c.failed.ensures (c.fail.ensures _ _)))

pub returns-in-Due : goal.returns-in-Due
unfolding step
returns-in-Due c = let args = c.args in
    rw c.in-Due.is
    (steps-kept args.z _ args.seen args.node args.client args.value.now args.blocks.now args.spare.now args.differences.now _ _ _
    (Aging.due args.z _) (λ s. refl) c.kept-in-Due.ensures (of-answer c.asked.ensures (c.due.ensures _ _ _)))

pub returns-in-Tick : goal.returns-in-Tick
returns-in-Tick c = let args = c.args in
    rw c.in-Tick.is
    (steps-tick args.z args.seen args.node args.client args.value.now args.blocks.now args.spare.now args.differences.now _
    c.ticked.ensures c.tick.ensures)

pub returns-in-At : goal.returns-in-At
unfolding step
returns-in-At c = let args = c.args in
    rw c.in-At.is
    (steps-kept args.z _ args.seen args.node args.client args.value.now args.blocks.now args.spare.now args.differences.now _ _ _
    (step_at c.in-At.op args.z c.in-At.c c.in-At.j) (λ s. refl) c.kept-in-At.ensures c.at_node.ensures)

pub returns-in-By : goal.returns-in-By
returns-in-By c = let args = c.args in
    rw c.in-By.is (c.by_client.ensures args.value.now args.differences.now)
