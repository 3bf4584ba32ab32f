-- A refusal that changes nothing by its number leaves the stripe as it was, whatever sizes the call is handed. One lemma `X-same` for each call X.
-- Assumes nothing.
use Rattle.std.specs.Prelude.{Option, None, Some}
use mathlib.Core.Path.{◌≡◌, refl, ap, ◌∙◌}
use mathlib.Core.Bool.{Bool, true, false, cond, ◌||◌, not}
use mathlib.Core.List.{List}
use Prim.Native.Nat.{ℕ, ◌+◌}
use lib.Dec.{eqb, leb}
use lib.ListN.{length}
use Rattle.entries.specs.Entries.{is_recent_in, previous_recent}
use Rattle.records.specs.Node.{is_l0, is_l1}
use Rattle.records.specs.declared.Sizes.{Sizes}
use Rattle.records.specs.declared.NodeCall.{NodeCall}
use Rattle.records.specs.declared.NodeCall.TheVariants.{Add, Check}
use Rattle.records.specs.declared.ClientCall.{ClientCall}
use Rattle.records.specs.declared.ClientCall.TheVariants.{Drop, Sweep, Stop, Lock, Weaken, Tighten, Settle, Unlock, Quit}
use Rattle.records.specs.declared.Refusal.{Refusal}
use Rattle.records.specs.declared.Refusal.TheVariants.{OutOfLimits, OutOfRange, OutOfPhase}
use Rattle.records.specs.Client.{Write, remembered}
use Rattle.machine.specs.Stripe.{Stripe, Answer, Accepted, Added, Done, Rebuilt, number, node_at, Outcome, answered, refused, guard, Local, Whole, at_node, put_node, on_node, whole, put_whole, on_whole}
use Rattle.machine.specs.Writing as Writing
use Rattle.machine.specs.Rebuild as Rebuild
use Rattle.machine.specs.Failure as Failure
use Rattle.machine.specs.Aging as Aging
use Rattle.machine.specs.Calls.{Call, Read, Pick, Swap, Fail, Due, Tick, At, By, step_at, step_by, step, RefusedUnchanged}
use Rattle.basics.proofs.Tests.{clash, cond_ind}
use Rattle.machine.proofs.View.{put_back, put-whole-back}
use Rattle.machine.proofs.Kept.{refusal-number}
use Rattle.machine.proofs.Reading.{read-leaves}

-- whether a call with this answer may change anything: it is accepted, or refused with 9 or 10
abbrev may_change : ℕ → Bool
may_change number = eqb number 0 || (eqb number 9 || eqb number 10)

-- with any other answer the call leaves s
record Same {S : Type 0} (s : S) (o : Outcome S) : Type 0 where
  left : may_change (number o.answer) ≡ false → o.after ≡ s

module _ {S : Type 0} (s : S) where
  same-refused : (why : Refusal) → Same s (refused why s)
  same-refused why = record { left = λ e. refl }

  same-guard : (b : Bool) (why : Refusal) (rest : Outcome S) → Same s rest → Same s (guard b why s rest)
  unfolding guard
  same-guard true why rest k = same-refused why
  same-guard false why rest k = k

  same_cond : (b : Bool) (o p : Outcome S) → Same s o → Same s p → Same s (cond b o p)
  same_cond true o p k l = k
  same_cond false o p k l = l

  -- an answer that may change anything
  same-other : (a : Answer) (t : S) → may_change (number a) ≡ true → Same s (answered a t)
  same-other a t may = record { left = λ not. clash may not }

module _ (z : Sizes) where
  module _ (l : Local) where
    unless-same : (tests : Option Refusal) (effect : Outcome Local) → Same l effect → Same l (Writing.unless tests l effect)
    unless-same None effect k = k
    unless-same (Some why) effect k = same-refused l why

    swap-same : (c i : ℕ) (value : List ℕ) → Same l (Writing.swap z c i value l)
    unfolding Writing.swap
    swap-same c i value =
        let after = Writing.swapped z c i value l in
        same-guard l _ _ _ (unless-same (Writing.swap_tests z c i l.node l.client) (answered Accepted after) (same-other l Accepted after refl))

    added-same : (c j : ℕ) (hand : Option Write) → Same l (Writing.added z c j hand l)
    added-same c j None = same-refused l _
    added-same c j (Some w) =
        same-other l _ _ (cond_ind (λ a. may_change (number a) ≡ true) (Writing.completes z j w) Done Added (λ e. refl) (λ e. refl))

    add_same : (c j : ℕ) → Same l (Writing.add z c j l)
    unfolding Writing.add
    add_same c j =
        let hand = l.client.hand in
        same-guard l _ _ _ (unless-same (Writing.add_tests z c j l.node l.client) (Writing.added z c j hand l) (added-same c j hand))

    checked-same : (j : ℕ) (w : Option Write) → Same l (Writing.check_write j w l)
    unfolding Writing.check_write
    checked-same j None = same-refused l _
    checked-same j (Some w) =
        same-guard l _ _ _
        (same_cond l (not (is_recent_in w.id l.node.entries)) _ _ (same-other l _ _ refl)
        (same_cond l (previous_recent w.previous l.node.entries) _ _ (same-other l _ _ refl) (same-other l _ _ refl)))

    check-same : (c j : ℕ) → Same l (Writing.check z c j l)
    unfolding Writing.check
    check-same c j = same-guard l _ _ _ (same-guard l _ _ _ (checked-same j l.client.hand))

    drop-same : (c : ℕ) → Same l (Writing.drop z c l)
    unfolding Writing.drop
    drop-same c = same-guard l _ _ _ (same-guard l _ _ _ (same-guard l _ _ _ (same-other l _ _ refl)))

    sweep-same : (c : ℕ) → Same l (Writing.sweep z c l)
    unfolding Writing.sweep
    sweep-same c = same-guard l _ _ _ (same-guard l _ _ _ (same-guard l _ _ _ (same-guard l _ _ _ (same-other l _ _ refl))))

    fail-same : (j : ℕ) (value : List ℕ) → Same l (Failure.fail z j value l)
    unfolding Failure.fail
    fail-same j value = same-guard l _ _ _ (same-guard l _ _ _ (same-other l _ _ refl))

    due-same : (j : ℕ) → Same l (Aging.due z j l)
    unfolding Aging.due
    due-same j = same-guard l _ _ _ (same-guard l _ _ _ (same-other l _ _ refl))

  tick-same : (w : Whole) → Same w (Aging.tick z w)
  unfolding Aging.tick
  tick-same w = same-guard w _ _ _ (same-other w _ _ refl)

  module _ (c : ℕ) (w : Whole) where
    holding-same : (held : Bool) (rest : Outcome Whole) → Same w rest → Same w (Rebuild.holding held c w rest)
    unfolding Rebuild.holding
    holding-same true rest k = k
    holding-same false rest k = same-other w _ _ refl

    -- the tests that a call begins with; that of a rebuild call's phase
    begun-same : (a b : Bool) (rest : Outcome Whole) → Same w rest → Same w (guard a OutOfLimits w (guard b OutOfRange w rest))
    begun-same a b rest k = same-guard w a _ _ (same-guard w b _ _ k)

    phased-same : (a b out : Bool) (rest : Outcome Whole) → Same w rest → Same w (guard a OutOfLimits w (guard b OutOfRange w (guard out OutOfPhase w rest)))
    phased-same a b out rest k = begun-same a b _ (same-guard w out _ _ k)

    stop-same : Same w (Failure.stop z c w)
    unfolding Failure.stop
    stop-same = begun-same _ _ _ (same-other w _ _ refl)

    lock-same : Same w (Rebuild.lock z c w)
    unfolding Rebuild.lock Rebuild.lock_node
    lock-same =
        let x = node_at w.nodes (length (remembered w.client.rebuild) + 1) in
        phased-same _ _ _ _ (same_cond w (is_l0 x.lmode || is_l1 x.lmode) _ _ (same-other w _ _ refl) (same-other w _ _ refl))

    pick_same : Same w (Rebuild.pick z c w)
    unfolding Rebuild.pick Rebuild.pick_now
    pick_same =
        phased-same _ _ _ _
        (same-guard w _ _ _ (same-guard w _ _ _ (holding-same _ _ (same-guard w _ _ _ (same-guard w _ _ _ (same-other w _ _ refl))))))

    weaken-same : Same w (Rebuild.weaken z c w)
    unfolding Rebuild.weaken
    weaken-same = phased-same _ _ _ _ (same-guard w _ _ _ (same-guard w _ _ _ (holding-same _ _ (same-other w _ _ refl))))

    tighten-same : Same w (Rebuild.tighten z c w)
    unfolding Rebuild.tighten
    tighten-same = phased-same _ _ _ _ (same-guard w _ _ _ (holding-same _ _ (same-other w _ _ refl)))

    writing-same : Same w (Rebuild.write z c w)
    unfolding Rebuild.write
    writing-same = phased-same _ _ _ _ (holding-same _ _ (same-other w _ _ refl))

    settle-same : Same w (Rebuild.settle z c w)
    unfolding Rebuild.settle
    settle-same =
        phased-same _ _ _ _
        (holding-same _ _
        (same-other w _ _ (cond_ind (λ a. may_change (number a) ≡ true) (leb z.n (Rebuild.own w)) Rebuilt Accepted (λ e. refl) (λ e. refl))))

    unlock-same : Same w (Rebuild.unlock z c w)
    unfolding Rebuild.unlock
    unlock-same = phased-same _ _ _ _ (holding-same _ _ (same-other w _ _ refl))

    quit-same : Same w (Rebuild.quit z c w)
    unfolding Rebuild.quit
    quit-same = phased-same _ _ _ _ (same-other w _ _ refl)

  module _ (s : Stripe) where
    at_same : (j c : ℕ) (call : Local → Outcome Local) → Same (at_node j c s) (call (at_node j c s)) → Same s (on_node j c call s)
    at_same j c call k = record { left = λ e. ap (λ l. put_node j c l s) (k.left e) ∙ put_back j c s }

    on_same : (c : ℕ) (call : Whole → Outcome Whole) → Same (whole c s) (call (whole c s)) → Same s (on_whole c call s)
    on_same c call k = record { left = λ e. ap (λ w. put_whole c w s) (k.left e) ∙ put-whole-back c s }

    at_call : (op : NodeCall) (c j : ℕ) → Same (at_node j c s) (step_at op z c j (at_node j c s))
    at_call Add c j = add_same (at_node j c s) c j
    at_call Check c j = check-same (at_node j c s) c j

    by_call : (op : ClientCall) (c : ℕ) → Same s (step_by op z c s)
    by_call Drop c = at_same 0 c (Writing.drop z c) (drop-same (at_node 0 c s) c)
    by_call Sweep c = at_same _ c (Writing.sweep z c) (sweep-same _ c)
    by_call Stop c = on_same c (Failure.stop z c) (stop-same c (whole c s))
    by_call Lock c = on_same c (Rebuild.lock z c) (lock-same c (whole c s))
    by_call Weaken c = on_same c (Rebuild.weaken z c) (weaken-same c (whole c s))
    by_call Tighten c = on_same c (Rebuild.tighten z c) (tighten-same c (whole c s))
    by_call ClientCall.Write c = on_same c (Rebuild.write z c) (writing-same c (whole c s))
    by_call Settle c = on_same c (Rebuild.settle z c) (settle-same c (whole c s))
    by_call Unlock c = on_same c (Rebuild.unlock z c) (unlock-same c (whole c s))
    by_call Quit c = on_same c (Rebuild.quit z c) (quit-same c (whole c s))

    call_same : (call : Call) → Same s (step z call s)
    unfolding step
    call_same (Read i) = record { left = λ e. read-leaves z i s }
    call_same (Pick c) = on_same c (Rebuild.pick z c) (pick_same c (whole c s))
    call_same (Swap c i value) = at_same i c (Writing.swap z c i value) (swap-same (at_node i c s) c i value)
    call_same (Fail j value) = at_same j 0 (Failure.fail z j value) (fail-same (at_node j 0 s) j value)
    call_same (Due j) = at_same j 0 (Aging.due z j) (due-same (at_node j 0 s) j)
    call_same Tick = on_same 0 (Aging.tick z) (tick-same (whole 0 s))
    call_same (At op c j) = at_same j c (step_at op z c j) (at_call op c j)
    call_same (By op c) = by_call op c

pub refusals-same : RefusedUnchanged
refusals-same z call s why is same = (call_same z s call).left (ap (λ a. may_change (number a)) is ∙ rw (refusal-number why, same))

-- of 1 it is so
pub limits-same : (z : Sizes) (s : Stripe) (call : Call) → number (step z call s).answer ≡ 1 → (step z call s).after ≡ s
limits-same z s call one = (call_same z s call).left (rw one)
