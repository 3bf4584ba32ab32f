-- The tests, in order; then as the node is swept. Assumes nothing.
use mathlib.Core.Path.{◌≡◌}
use mathlib.Core.List.{List}
use Prim.Native.Nat.{ℕ}
use Rattle.records.specs.View.{node_of, client_of}
use Rattle.machine.specs.Stripe.{Local}
use Rattle.machine.specs.Writing as Writing
use Rattle.calls.specs.Answers.{local}
use Rattle.sweeping.specs.Sweeping.{sweep_node}
use Rattle.calls.proofs.Returns.{guards, holds, refused-at-node}
use Rattle.sweeping.proofs.sweeps.sweep.Goals as goal
use Rattle.sweeping.proofs.sweeps.sweep.Goals.{Else-has_write, Start}

abbrev lent : Start → List ℕ → List ℕ → Local
lent c blocks differences = local (node_of c.args.node) (client_of c.args.client) blocks differences

-- past these tests
passed : (c : Else-has_write) (blocks differences : List ℕ) →
    sweep_node c.args.z (lent (goal.at.Else-has_write c).Start blocks differences) ≡ Writing.sweep c.args.z c.args.c (lent (goal.at.Else-has_write c).Start blocks differences)
unfolding Writing.sweep
passed c blocks differences =
    search (guards, c.is_within.ensures, c.if-not-is_within.false-raw, c.is_client.ensures, c.if-not-is_client.false-raw, c.has_write.ensures, c.if-has_write.false)

pub returns-then-not-is_within : goal.returns-then-not-is_within
unfolding Writing.sweep
returns-then-not-is_within c blocks differences = refused-at-node c.refused.ensures (search (guards, c.is_within.ensures, c.if-not-is_within.true-raw))

pub returns-then-not-is_client : goal.returns-then-not-is_client
unfolding Writing.sweep
returns-then-not-is_client c blocks differences = refused-at-node c.refused-then-not-is_client.ensures (search (guards, c.is_within.ensures, c.if-not-is_within.false-raw, c.is_client.ensures, c.if-not-is_client.true-raw))

pub returns-then-has_write : goal.returns-then-has_write
unfolding Writing.sweep
returns-then-has_write c blocks differences = refused-at-node c.refused-then-has_write.ensures
    (search (guards, c.is_within.ensures, c.if-not-is_within.false-raw, c.is_client.ensures, c.if-not-is_client.false-raw, c.has_write.ensures, c.if-has_write.true))

pub sweep_node-requires : goal.sweep_node-requires
sweep_node-requires c = holds c.is_within.ensures c.if-not-is_within.false-raw

pub returns : goal.returns
returns c blocks differences = rw (← passed (goal.at.returns c).Else-has_write blocks differences) (c.sweep_node.ensures blocks differences)
