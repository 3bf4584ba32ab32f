-- As the node answers. Assumes nothing.
use mathlib.Core.Path.{refl}
use Rattle.calls.specs.Answers.{local}
use Rattle.records.specs.View.{node_of, client_of}
use Rattle.calls.proofs.NodeAnswers.{stepped, sweep-refused, sweep-accepted}
use Rattle.calls.proofs.Returns.{refused-at-node, accepted}
use Rattle.limits.proofs.Within.{lent-within}
use Rattle.sweeping.proofs.sweeps.sweep_node.Goals as goal

pub sweep_entries-step-requires : goal.sweep_entries-step-requires
sweep_entries-step-requires c = let args = c.args in
    let known = lent-within args.z args.node args.client c.requires in
    (known.entries, known.moved, known.finished)

pub sweep_on-next-requires : goal.sweep_on-next-requires
sweep_on-next-requires c = let known = lent-within c.args.z c.args.node c.args.client c.requires in
    (known.round, known.nodes)

pub returns-in-Err : goal.returns-in-Err
returns-in-Err c blocks differences = refused-at-node c.refused.ensures (sweep-refused _ _ _ c.sweep_entries-step.ensures.answered _ c.in-Err.is)

pub returns-in-Ok : goal.returns-in-Ok
returns-in-Ok c blocks differences = let args = c.args in
    let l = local (node_of args.node) (client_of args.client) blocks differences in
    let step = c.sweep_entries-step.ensures in
    let took = c.in-Ok.is in
    accepted (stepped step took) c.sweep_on-next.ensures refl refl (sweep-accepted l _ _ step.answered took)
