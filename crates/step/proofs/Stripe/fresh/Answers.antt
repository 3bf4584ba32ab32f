-- Fresh nodes and fresh clients. Assumes nothing.
use Rattle.records.proofs.Limits.{nodes-few}
use Rattle.limits.proofs.Limits.{clients-few}
use Rattle.step.proofs.Stripe.fresh.Goals as goal

pub returns : goal.returns
returns c = record {
  is = λ z spare differences h. rw (c.fresh.ensures z.n (nodes-few z h), c.fresh-2.ensures z.m (clients-few z h));
}
