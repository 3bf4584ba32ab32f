-- A rebuild in the phase of a call has what that phase needs. Assumes nothing.
use mathlib.Core.Path.{◌≡◌, refl}
use mathlib.Core.Bool.{true}
use lib.Dec.{eqb}
use Rattle.records.specs.Client.{Rebuild, NoRebuild, Locking, Picking, Writing, Settling, Unlocking, next_node}
use Rattle.machine.specs.Rebuild.{picks, writes, settles, unlocks, phase_of, set_in, epoch_in}
use Rattle.basics.proofs.Tests.{clash}

pub picking-is : (r : Rebuild) → eqb (phase_of r) picks ≡ true → r ≡ Picking (next_node r)
picking-is NoRebuild e = clash e refl
picking-is (Locking old) e = clash e refl
picking-is (Picking t) e = refl
picking-is (Writing j set epoch) e = clash e refl
picking-is (Settling j epoch) e = clash e refl
picking-is (Unlocking j) e = clash e refl

pub writing-is : (r : Rebuild) → eqb (phase_of r) writes ≡ true → r ≡ Writing (next_node r) (set_in r) (epoch_in r)
writing-is NoRebuild e = clash e refl
writing-is (Locking old) e = clash e refl
writing-is (Picking t) e = clash e refl
writing-is (Writing j set epoch) e = refl
writing-is (Settling j epoch) e = clash e refl
writing-is (Unlocking j) e = clash e refl

pub settling-is : (r : Rebuild) → eqb (phase_of r) settles ≡ true → r ≡ Settling (next_node r) (epoch_in r)
settling-is NoRebuild e = clash e refl
settling-is (Locking old) e = clash e refl
settling-is (Picking t) e = clash e refl
settling-is (Writing j set epoch) e = clash e refl
settling-is (Settling j epoch) e = refl
settling-is (Unlocking j) e = clash e refl

pub unlocking-is : (r : Rebuild) → eqb (phase_of r) unlocks ≡ true → r ≡ Unlocking (next_node r)
unlocking-is NoRebuild e = clash e refl
unlocking-is (Locking old) e = clash e refl
unlocking-is (Picking t) e = clash e refl
unlocking-is (Writing j set epoch) e = clash e refl
unlocking-is (Settling j epoch) e = clash e refl
unlocking-is (Unlocking j) e = refl
