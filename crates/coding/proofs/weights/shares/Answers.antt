-- `coding::weights::shares` meets its contract. Assumes nothing.
use mathlib.Core.Path.{refl}
use native.Mathlib.Omega.{arith}
use Rattle.coding.proofs.Weighing.{shared-turn}
use Rattle.coding.proofs.weights.shares.Goals as goal

pub loop-q-init : goal.loop-q-init
loop-q-init c = record { size = refl; done = λ q h. absurd (omega arith) }

pub loop-q-preserved : goal.loop-q-preserved
loop-q-preserved c = shared-turn _ _ _ _ (omega (arith, c.requires.1.few)) c.share_of.ensures c.loop-q.invariant

pub returns : goal.returns
returns c = record { at = λ q h. c.loop-q.invariant.done q (omega arith) }
