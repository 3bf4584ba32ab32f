-- `coding::weights::recover_row` meets its contract. Assumes nothing.
use mathlib.Core.Path.{◌≡◌, refl, ◌∙◌}
use Prim.Native.Nat.{ℕ, ◌<◌, ◌-◌, ◌+◌}
use native.Mathlib.Omega.{arith}
use lib.ListN.{length, get_or}
use Rattle.kernel.specs.Combine.{nth}
use Rattle.code.specs.Decode as Decode
use Rattle.blocks.proofs.Entries.{entries_none, entries-turn, untouched-turn, zeros-at}
use Rattle.coding.proofs.Weighing.{points-apart, one_span, recover-turn}
use Rattle.coding.proofs.weights.recover_row.Goals as goal

pub span-requires : goal.span-requires
span-requires c = let pre = c.requires in (pre.1, pre.2, omega arith, omega arith, λ l h e. pre.3 l e, pre.4, pre.5)

pub scale-requires : goal.scale-requires
scale-requires c = let pre = c.requires in (pre.1, pre.2.few, pre.4, pre.5)

pub over-all-requires : goal.over-all-requires
over-all-requires c = (omega (arith, c.requires.2.few, c.span.ensures.1), c.scale.ensures.1)

pub loop-q-init : goal.loop-q-init
loop-q-init c = (entries_none _ _ _ refl, λ l h. zeros-at 12 l)

pub overflow_sub-nodes : goal.overflow_sub-nodes
overflow_sub-nodes c = c.requires.2.from c.loop-q.q (omega (arith, c.loop-q-test.true))

pub overflow_cast-t-in-loop-q : goal.overflow_cast-t-in-loop-q
overflow_cast-t-in-loop-q c = let pre = c.requires in
    let inside = c.loop-q-test.true in
    let q = c.loop-q.q in
    omega (arith, (points-apart c.args.nodes.now pre.2 (λ l. omega (arith, c.shared_slice_known-1.given l)) c.args.j q pre.4 pre.5 (omega (arith, inside)) (pre.3 q (omega (arith, inside)))).1)

pub logarithm-own-requires : goal.logarithm-own-requires
logarithm-own-requires c = let pre = c.requires in
    let inside = c.loop-q-test.true in
    let q = c.loop-q.q in
    let apart = points-apart c.args.nodes.now pre.2 (λ l. omega (arith, c.shared_slice_known-1.given l)) c.args.j q pre.4 pre.5 (omega (arith, inside)) (pre.3 q (omega (arith, inside))) in
    (pre.1, apart.0, apart.1)

pub overflow_sub-own : goal.overflow_sub-own
overflow_sub-own c = omega (arith, c.logarithm-own.ensures.0)

pub overflow_add-shares : goal.overflow_add-shares
overflow_add-shares c = let share = c.requires.6.at c.loop-q.q (omega (arith, c.loop-q-test.true)) in
    omega (arith, share.small)

pub overflow_add-shares-in-loop-q : goal.overflow_add-shares-in-loop-q
overflow_add-shares-in-loop-q c = let share = c.requires.6.at c.loop-q.q (omega (arith, c.loop-q-test.true)) in
    omega (arith, share.small, c.over-all.ensures.1)

pub loop-q-preserved : goal.loop-q-preserved
loop-q-preserved c = let pre = c.requires in
    let nodes = c.args.nodes.now in
    let j = c.args.j in
    let q = c.loop-q.q in
    let inside = c.loop-q-test.true in
    let bytes : (l : ℕ) → get_or nodes l 0 < 256 = λ l. omega (arith, c.shared_slice_known-1.given l) in
    let own = c.logarithm-own.ensures in
    let weight : c.power.result ≡ Decode.recover (length nodes) (nth nodes) j (q + 1) =
    c.power.ensures
    ∙ recover-turn nodes pre.2 bytes j pre.4 pre.5 pre.3 q (omega (arith, inside)) _ c.logarithm-own.result c.over-all.result own.0 (pre.6.at q (omega (arith, inside)))
    own.1
    (c.over-all.ensures.0 ∙ rw (c.span.ensures.0 ∙ one_span (nth nodes) (j - 1) (length nodes) (length nodes + 1) (omega arith), c.scale.ensures.0)) in
    (entries-turn _ _ _ _ _ (omega (arith, inside, pre.2.few)) weight c.loop-q.invariant.0, untouched-turn q c.loop-q.r _ c.loop-q.invariant.1)

pub returns : goal.returns
returns c = (λ q q1 qk. c.loop-q.invariant.0.done q q1 (omega arith), λ q h. c.loop-q.invariant.1 q (omega arith))
