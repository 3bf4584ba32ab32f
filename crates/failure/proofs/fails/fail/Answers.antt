-- The tests, in order; then the bytes are the block and the record is a failed node's. Assumes nothing.
use mathlib.Core.Path.{refl}
use borrow.Author.Tests.{eqb-true}
use Rattle.basics.proofs.Tests.{and_left, and_right}
use Rattle.records.specs.Sizes.{sizes_within}
use Rattle.machine.specs.Stripe.{blocks_fit}
use Rattle.machine.specs.Failure as Failure
use Rattle.limits.proofs.Limits.{range-low, block_in_lem}
use Rattle.calls.proofs.NodeAnswers.{stepped}
use Rattle.calls.proofs.Returns.{holds, guards, refused-of-node, accepted}
use Rattle.failure.proofs.fails.fail.Goals as goal

pub returns-then-not-is_within : goal.returns-then-not-is_within
unfolding Failure.fail
returns-then-not-is_within c client differences = refused-of-node c.refused.ensures (search guards)

pub returns-then-not-is_node : goal.returns-then-not-is_node
unfolding Failure.fail
returns-then-not-is_node c client differences = refused-of-node c.refused-then-not-is_node.ensures (search guards)

pub copy_block-requires : goal.copy_block-requires
copy_block-requires c = let args = c.args in
    let z = args.z in
    let t = args.blocks.now in
    let fits = and_right (sizes_within z) _ (holds c.is_within.ensures c.if-not-is_within.false-raw) in
    let node = holds c.is_node.ensures c.if-not-is_node.false-raw in
    (range-low z.n args.j node, block_in_lem z.n z.b args.j t node (and_left (blocks_fit z t) _ fits), eqb-true _ _ (and_right (blocks_fit z t) _ fits))

pub returns : goal.returns
unfolding Failure.fail
returns c client differences = let step = c.fail-step.ensures in
    accepted (stepped step step.answered) refl c.copy_block.ensures refl (search guards)
