-- The lent tables as a stripe, and the machine's call on it: a table of another length is answered 1. Assumes nothing.
use Rattle.std.specs.Prelude.{not, ◌&&◌, List, ℕ, eqb, length}
use Rattle.machine.specs.Calls.{Call, step}
use Rattle.machine.specs.Stripe.{Outcome, Stripe, guard}
use Rattle.records.specs.declared.ClientRecord.{ClientRecord}
use Rattle.records.specs.declared.NodeRecord.{NodeRecord}
use Rattle.records.specs.declared.Refusal.TheVariants.{OutOfLimits}
use Rattle.records.specs.declared.Sizes.{Sizes}
use Rattle.step.specs.Steps.{stripe_with}
use Rattle.taking.specs.Table.{clients_in, nodes_in}

-- the five tables that are lent, as a stripe
abbrev pub stripe_in : List NodeRecord → List ClientRecord → List ℕ → List ℕ → List ℕ → Stripe
stripe_in nodes clients blocks spare differences = stripe_with (nodes_in nodes) (clients_in clients) blocks spare differences

-- "1: .. buffer length outside the limits": the tables of n node records and of m client records are such buffers
abbrev pub on_tables : Sizes → Call → Stripe → Outcome Stripe
on_tables z call s = guard (not (eqb (length s.nodes) z.n && eqb (length s.clients) z.m)) OutOfLimits s (step z call s)
