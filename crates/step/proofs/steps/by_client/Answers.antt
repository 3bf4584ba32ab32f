-- By cases of the call, a lemma for each shape. Assumes nothing.
use mathlib.Core.Path.{refl}
use Rattle.machine.specs.Calls.{step}
use Rattle.machine.specs.Writing as Writing
use Rattle.machine.specs.Rebuild as Rebuild
use Rattle.machine.specs.Failure as Failure
use Rattle.step.proofs.Shapes.{steps-kept, of-client, steps_on, steps-by}
use Rattle.step.proofs.steps.by_client.Goals as goal

pub returns-in-Drop : goal.returns-in-Drop
unfolding step
returns-in-Drop c value differences = let args = c.args in
    rw c.in-Drop.is
    (steps-kept args.z _ args.seen args.node args.client value args.blocks.now args.spare.now differences _ _ _
    (Writing.drop args.z args.c) (λ s. refl) c.kept.ensures (of-client c.beside.ensures (c.drop.ensures _ _ _)))

pub returns-in-Sweep : goal.returns-in-Sweep
unfolding step
returns-in-Sweep c value differences = let args = c.args in
    rw c.in-Sweep.is
    (steps-kept args.z _ args.seen args.node args.client value args.blocks.now args.spare.now differences _ _ _
    (Writing.sweep args.z args.c) (λ s. refl) c.kept-in-Sweep.ensures (c.sweep.ensures _ _))

pub returns-in-Stop : goal.returns-in-Stop
unfolding step
returns-in-Stop c value differences = let args = c.args in
    rw c.in-Stop.is
    (steps-by args.z _ args.c args.seen args.node args.client value args.blocks.now args.spare.now differences c.stop.result Failure.stop (λ s. refl) refl
    (λ x. refl) c.stop.ensures)

pub returns-in-Lock : goal.returns-in-Lock
unfolding step
returns-in-Lock c value differences = let args = c.args in
    rw c.in-Lock.is
    (steps-by args.z _ args.c args.seen args.node args.client value args.blocks.now args.spare.now differences c.lock.result Rebuild.lock (λ s. refl) refl
    (λ x. refl) c.lock.ensures)

pub returns-in-Weaken : goal.returns-in-Weaken
unfolding step
returns-in-Weaken c value differences = let args = c.args in
    rw c.in-Weaken.is
    (steps-by args.z _ args.c args.seen args.node args.client value args.blocks.now args.spare.now differences c.weaken.result Rebuild.weaken (λ s. refl) refl
    (λ x. refl) c.weaken.ensures)

pub returns-in-Tighten : goal.returns-in-Tighten
unfolding step
returns-in-Tighten c value differences = let args = c.args in
    rw c.in-Tighten.is
    (steps-by args.z _ args.c args.seen args.node args.client value args.blocks.now args.spare.now differences c.tighten.result Rebuild.tighten (λ s. refl) refl
    (λ x. refl) c.tighten.ensures)

pub returns-in-Write : goal.returns-in-Write
unfolding step
returns-in-Write c value differences = let args = c.args in
    rw c.in-Write.is
    (steps_on args.z _ args.seen args.node args.client value args.blocks.now args.spare.now differences _ _ (Rebuild.write args.z args.c) (λ s. refl)
    refl (λ x. refl) c.write.ensures)

pub returns-in-Settle : goal.returns-in-Settle
unfolding step
returns-in-Settle c value differences = let args = c.args in
    rw c.in-Settle.is
    (steps-by args.z _ args.c args.seen args.node args.client value args.blocks.now args.spare.now differences c.settle.result Rebuild.settle (λ s. refl) refl
    (λ x. refl) c.settle.ensures)

pub returns-in-Unlock : goal.returns-in-Unlock
unfolding step
returns-in-Unlock c value differences = let args = c.args in
    rw c.in-Unlock.is
    (steps-by args.z _ args.c args.seen args.node args.client value args.blocks.now args.spare.now differences c.unlock.result Rebuild.unlock (λ s. refl) refl
    (λ x. refl) c.unlock.ensures)

pub returns-in-Quit : goal.returns-in-Quit
unfolding step
returns-in-Quit c value differences = let args = c.args in
    rw c.in-Quit.is
    (steps-by args.z _ args.c args.seen args.node args.client value args.blocks.now args.spare.now differences c.quit.result Rebuild.quit (λ s. refl) refl
    (λ x. refl) c.quit.ensures)
