-- No call yet, and one call more.
use Rattle.volumeshelf.specs.Entry.{none}
use Rattle.volumeshelf.proofs.Walked.{one-more}
use Rattle.volumeshelf.proofs.entry.on_each.Goals as goal

pub loop-stripe-init : goal.loop-stripe-init
loop-stripe-init c = none

pub loop-stripe-preserved : goal.loop-stripe-preserved
loop-stripe-preserved c =
    one-more c.args.request c.args.value.now _ c.loop-stripe.invariant c.at-one.result c.at-one.ensures c.on_stripe-answer.result _ c.on_stripe-answer.ensures
