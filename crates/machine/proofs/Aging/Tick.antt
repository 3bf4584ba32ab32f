-- A tick keeps the invariant: no test of a list but the due test looks at ages. Assumes nothing.
use mathlib.Core.Path.{sym, ◌∙◌}
use mathlib.Core.Logic.{inl}
use Prim.Native.Nat.{ℕ}
use Rattle.entries.specs.declared.WriteId.{WriteId}
use Rattle.entries.specs.Entries.{aged}
use Rattle.machine.proofs.EntryLaws.{listed-aged, recent-aged, old-aged, last-aged}
use Rattle.machine.proofs.Columns.{Ops, Columns, set_entries}
use Rattle.machine.proofs.Ledger.{Ledger}
use Rattle.machine.proofs.Invariant.{Good}
use Rattle.machine.proofs.Writing.Sweep.{Tidied, tidied-node}

module _ (O : Ops) where
  open O use {B}

  abbrev pub older : Columns B → Columns B
  older s = set_entries (λ j. aged (s.entries j)) s

  pub tick-good : (h : Ledger B) (s : Columns B) → Good O h s → Good O h (older s)
  tick-good h s g =
      let I = g.inv in
      record {
        ghost = g.ghost;
        inv = record {
          ids = I.ids;
          node = λ j. tidied-node O g.ghost h j (s.block j) (s.op j) (s.epoch j) (s.entries j) (aged (s.entries j)) (tidied j) (I.node j);
          pair = I.pair;
          hand = I.hand;
          finished = I.finished;
          unl = I.unl;
          weak = I.weak;
          phase = I.phase;
          rebuild = I.rebuild;
          one = I.one;
          shown = I.shown;
        };
      }
    where
      id_of : ℕ → ℕ → WriteId
      id_of = g.ghost.id_of

      tidied : (j : ℕ) → Tidied O g.ghost h (s.entries j) (aged (s.entries j))
      tidied j =
          record {
            listed = λ x t. sym (listed-aged x (s.entries j)) ∙ t;
            recent = λ i y a b d t. recent-aged (id_of i y) (s.entries j) ∙ t;
            old = λ i y a b t. inl (sym (old-aged (id_of i y) (s.entries j)) ∙ t);
            last = λ i t. inl (last-aged (s.entries j) ∙ t);
          }
