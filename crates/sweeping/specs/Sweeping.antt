-- Document 01, "Writing": what is left of a sweep once the tests of what it is lent and of the client are passed. Assumes nothing.
use Rattle.records.specs.declared.Sizes.{Sizes}
use Rattle.records.specs.Node.{is_free}
use Rattle.machine.specs.Stripe.{Outcome, Accepted, Local, answered}
use Rattle.machine.specs.Writing.{needing, swept}

-- "one node per call, needing NORM and UNL"
abbrev pub sweep_node : Sizes → Local → Outcome Local
sweep_node z l = needing (is_free l.node) l (answered Accepted (swept z l))
