-- By cases of the phase. Assumes nothing.
use Prim.Native.Nat.{◌≤◌}
use native.Mathlib.Omega.{arith}
use lib.ListN.{length}
use Rattle.code.proofs.SetBits.{bits-whole}
use Rattle.records.specs.Sizes.{node_limit}
use Rattle.records.specs.View.{old_lmodes}
use Rattle.records.proofs.Clients.{lmodes-count}
use Rattle.serial.proofs.Phases.{expired-back}
use Rattle.serial.proofs.clients.rebuild_bytes.Goals as goal

pub first_bits-requires : goal.first_bits-requires
first_bits-requires c = let x = c.in-Locking.x in
    let expired = c.in-Locking.expired in
    let few : length (old_lmodes x expired) ≤ node_limit = rw c.in-Locking.is at c.requires in
    omega (arith, lmodes-count x expired)

pub returns-in-NoRebuild : goal.returns-in-NoRebuild
returns-in-NoRebuild c = rw c.in-NoRebuild.is c.phase_bytes.ensures

pub returns-in-Locking : goal.returns-in-Locking
returns-in-Locking c = let x = c.in-Locking.x in
    let expired = c.in-Locking.expired in
    rw (c.in-Locking.is, lmodes-count x expired, expired-back x expired, ← c.first_bits.ensures) c.phase_bytes-in-Locking.ensures

pub returns-in-Picking : goal.returns-in-Picking
returns-in-Picking c = rw c.in-Picking.is c.phase_bytes-in-Picking.ensures

pub returns-in-Writing : goal.returns-in-Writing
returns-in-Writing c = rw (c.in-Writing.is, ← bits-whole c.in-Writing.set, ← c.first_bits-in-Writing.ensures) c.phase_bytes-in-Writing.ensures

pub returns-in-Settling : goal.returns-in-Settling
returns-in-Settling c = rw c.in-Settling.is c.phase_bytes-in-Settling.ensures

pub returns-in-Unlocking : goal.returns-in-Unlocking
returns-in-Unlocking c = rw c.in-Unlocking.is c.phase_bytes-in-Unlocking.ensures
