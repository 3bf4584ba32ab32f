-- A client's stop keeps the invariant: it is a quit, with hand and finished list emptied. Assumes nothing.
use Rattle.std.specs.Prelude.{None}
use mathlib.Core.List.{[]}
use Prim.Native.Nat.{ℕ}
use Rattle.basics.proofs.Updates.{upd}
use Rattle.machine.proofs.Columns.{Ops, Columns, set_hands, set_finished}
use Rattle.machine.proofs.Ledger.{Ledger}
use Rattle.machine.proofs.Invariant.{Good}
use Rattle.machine.proofs.Writing.Check.{drop-good}
use Rattle.machine.proofs.Writing.Sweep.{empty-finished-good}
use Rattle.machine.proofs.Rebuild.Locks.{lost, quit-good}

module _ (O : Ops) where
  open O use {B}

  abbrev pub stopped : ℕ → Columns B → Columns B
  stopped c s = set_hands (upd s.hand c None) (set_finished (upd s.finished c []) (lost c s))

  pub stop-good : (h : Ledger B) (s : Columns B) → Good O h s → (c : ℕ) → Good O h (stopped c s)
  stop-good h s g c = drop-good O h (set_finished (upd s.finished c []) (lost c s)) c (empty-finished-good O h (lost c s) c (quit-good O h s g c))
