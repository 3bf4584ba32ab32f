-- By what the change is: the record after the node's own step. Assumes nothing.
use Rattle.std.specs.Prelude.{Ok, Err}
use mathlib.Core.Path.{◌≡◌, ap, ◌∙◌}
use mathlib.Core.Bool.{Bool, true, false, cond, ◌||◌, not}
use Prim.Native.Nat.{ℕ}
use lib.Dec.{ltb}
use lib.ListN.{length}
use Rattle.entries.specs.Entries.{entry_limit}
use Rattle.records.specs.declared.NodeRecord.{NodeRecord}
use Rattle.records.specs.declared.NodeStep.{NodeStep}
use Rattle.records.specs.declared.Refusal.TheVariants.{OutOfLimits, OutOfPhase, NotHeld}
use Rattle.records.specs.Node.{Node, is_recons, held_by, weakened_by, ticked}
use Rattle.records.specs.NodeSteps.{LeftAtNode, MeetsAtNode, weaken_answer, tick_answer}
use Rattle.records.specs.View.{node_of}
use Rattle.stripe.specs.Seen.{weakened_for, ticked_within}
use Rattle.stripe.proofs.seen.Change.made.Goals as goal

-- what a step that is always accepted leaves
after-step : {after : Node} {before : NodeRecord} {r : NodeStep} → MeetsAtNode (Ok tt) after before r → node_of r.node ≡ after
after-step m = rw m.answered at m.left

-- and a weaken, which may be refused
after-weaken : (c : ℕ) {before : NodeRecord} {r : NodeStep} → MeetsAtNode (weaken_answer c (node_of before)) (weakened_by c (node_of before)) before r
    → node_of r.node ≡ weakened_for c (node_of before)
after-weaken c {before} {r} m =
    by (is_recons before.opmode) (held_by c (node_of before)) (rw m.answered at m.left)
  where
    by : (recons held : Bool) → LeftAtNode (cond recons (Err OutOfPhase) (cond (not held) (Err NotHeld) (Ok tt))) (weakened_by c (node_of before)) before r.node
        → node_of r.node ≡ cond (recons || not held) (node_of before) (weakened_by c (node_of before))
    by true held l = ap node_of l
    by false true l = l
    by false false l = ap node_of l

-- and a tick
after-tick : {before : NodeRecord} {r : NodeStep} → MeetsAtNode (tick_answer (node_of before)) (ticked (node_of before)) before r
    → node_of r.node ≡ ticked_within (node_of before)
after-tick {before} {r} m = by (ltb entry_limit (length (node_of before).entries)) (rw m.answered at m.left)
  where
    by : (many : Bool) → LeftAtNode (cond many (Err OutOfLimits) (Ok tt)) (ticked (node_of before)) before r.node
        → node_of r.node ≡ cond many (node_of before) (ticked (node_of before))
    by true l = ap node_of l
    by false l = l

pub returns-in-Keep : goal.returns-in-Keep
returns-in-Keep c = rw c.in-Keep.is

pub returns-in-Expire : goal.returns-in-Expire
returns-in-Expire c = rw c.in-Expire.is (after-step c.expire.ensures)

pub returns-in-Restore : goal.returns-in-Restore
returns-in-Restore c = rw c.in-Restore.is
    (after-step c.give_back.ensures ∙ rw (c.old_lmode.ensures, c.was_exp.ensures))

pub returns-in-Weaken : goal.returns-in-Weaken
returns-in-Weaken c = rw c.in-Weaken.is (after-weaken _ c.weaken.ensures)

pub returns-in-Tick : goal.returns-in-Tick
returns-in-Tick c = rw c.in-Tick.is (after-tick c.tick.ensures)
