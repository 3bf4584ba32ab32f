-- With sizes outside the limits every call is refused with 1. Assumes nothing.
use mathlib.Core.Path.{◌≡◌, sym}
use mathlib.Core.Bool.{false}
use Prim.Native.Nat.{ℕ}
use Rattle.records.specs.declared.Sizes.{Sizes}
use Rattle.records.specs.declared.NodeCall.{NodeCall}
use Rattle.records.specs.declared.NodeCall.TheVariants.{Add, Check}
use Rattle.records.specs.declared.ClientCall.{ClientCall}
use Rattle.records.specs.declared.ClientCall.TheVariants.{Drop, Sweep, Stop, Lock, Weaken, Tighten, Write, Settle, Unlock, Quit}
use Rattle.records.specs.declared.Refusal.TheVariants.{OutOfLimits}
use Rattle.records.specs.Sizes.{sizes_within}
use Rattle.machine.specs.Stripe.{Stripe, refused, guard, client_at, on_node}
use Rattle.machine.specs.Writing as Writing
use Rattle.machine.specs.Reading as Reading
use Rattle.machine.specs.Rebuild as Rebuild
use Rattle.machine.specs.Failure as Failure
use Rattle.machine.specs.Aging as Aging
use Rattle.machine.specs.Calls.{Call, Read, Pick, Swap, Fail, Due, Tick, At, By, step, step_at, step_by}
use Rattle.machine.proofs.View.{refused-at, refused-on}

module _ (z : Sizes) (s : Stripe) (e : sizes_within z ≡ false) where
  at-outside : (op : NodeCall) (c j : ℕ) → refused OutOfLimits s ≡ on_node j c (step_at op z c j) s
  unfolding guard Writing.add Writing.check
  at-outside Add c j = sym (refused-at s OutOfLimits j c (Writing.add z c j) (rw e))
  at-outside Check c j = sym (refused-at s OutOfLimits j c (Writing.check z c j) (rw e))

  by-outside : (op : ClientCall) (c : ℕ) → refused OutOfLimits s ≡ step_by op z c s
  unfolding guard Writing.drop Writing.sweep Failure.stop Rebuild.lock Rebuild.weaken Rebuild.tighten Rebuild.write Rebuild.settle Rebuild.unlock Rebuild.quit
  by-outside Drop c = sym (refused-at s OutOfLimits 0 c (Writing.drop z c) (rw e))
  by-outside Sweep c = sym (refused-at s OutOfLimits (Writing.sweep_node z (client_at s.clients c)) c (Writing.sweep z c) (rw e))
  by-outside Stop c = sym (refused-on s OutOfLimits c (Failure.stop z c) (rw e))
  by-outside Lock c = sym (refused-on s OutOfLimits c (Rebuild.lock z c) (rw e))
  by-outside Weaken c = sym (refused-on s OutOfLimits c (Rebuild.weaken z c) (rw e))
  by-outside Tighten c = sym (refused-on s OutOfLimits c (Rebuild.tighten z c) (rw e))
  by-outside Write c = sym (refused-on s OutOfLimits c (Rebuild.write z c) (rw e))
  by-outside Settle c = sym (refused-on s OutOfLimits c (Rebuild.settle z c) (rw e))
  by-outside Unlock c = sym (refused-on s OutOfLimits c (Rebuild.unlock z c) (rw e))
  by-outside Quit c = sym (refused-on s OutOfLimits c (Rebuild.quit z c) (rw e))

  pub step-outside : (call : Call) → refused OutOfLimits s ≡ step z call s
  unfolding step guard Reading.read_or Reading.read Writing.swap Failure.fail Aging.due Aging.tick Rebuild.pick
  step-outside (Read i) = rw e
  step-outside (Pick c) = sym (refused-on s OutOfLimits c (Rebuild.pick z c) (rw e))
  step-outside (Swap c i value) = sym (refused-at s OutOfLimits i c (Writing.swap z c i value) (rw e))
  step-outside (Fail j value) = sym (refused-at s OutOfLimits j 0 (Failure.fail z j value) (rw e))
  step-outside (Due j) = sym (refused-at s OutOfLimits j 0 (Aging.due z j) (rw e))
  step-outside Tick = sym (refused-on s OutOfLimits 0 (Aging.tick z) (rw e))
  step-outside (At op c j) = at-outside op c j
  step-outside (By op c) = by-outside op c
