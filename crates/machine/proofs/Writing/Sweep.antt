-- Sweep keeps the invariant: a node's list is made shorter or its finished ids are marked, and a client's finished list may be emptied. Assumes nothing.
use Rattle.std.specs.Prelude.{Some}
use mathlib.Core.Path.{◌≡◌, refl, sym, ◌∙◌}
use mathlib.Core.Logic.{◌⊎◌, inl, inr}
use mathlib.Core.Bool.{true, false}
use mathlib.Core.List.{List, []}
use Prim.Native.Nat.{ℕ, zero, suc, ◌≤◌}
use native.Mathlib.Nat.{le_trans}
use native.Mathlib.Omega.{arith}
use Rattle.entries.specs.declared.WriteId.{WriteId}
use Rattle.entries.specs.Entries.{Entry, is_listed, is_recent_in, is_old_in, is_in, last_recent, discard, mark_old}
use Rattle.records.specs.declared.Opmode.{Opmode}
use Rattle.basics.proofs.Updates.{upd, upd-ind}
use Rattle.basics.proofs.Tests.{clash, is_false, bool_cases}
use Rattle.machine.proofs.EntryLaws.{in-nil, listed-mark, recent-mark, old-mark, last-mark, listed-discard, recent-discard, old-discard, last-discard}
use Rattle.machine.proofs.Columns.{Ops, Columns, set_entries, set_finished}
use Rattle.machine.proofs.Ledger.{Ledger}
use Rattle.machine.proofs.Invariant.{Ghost, NodeOk, FinishedOk, Good}

module _ (O : Ops) where
  open O use {B}

  -- es' is es with old entries gone, or done ones marked, or only ages changed
  pub record Tidied (G : Ghost) (h : Ledger B) (es es' : List Entry) : Type 0 where
    pub listed : (x : WriteId) → is_listed x es' ≡ true → is_listed x es ≡ true
    pub recent : (i l : ℕ) → 1 ≤ l → l ≤ h.len i → h.done i l ≡ false → is_recent_in (G.id_of i l) es ≡ true → is_recent_in (G.id_of i l) es' ≡ true
    pub old : (i l : ℕ) → 1 ≤ l → l ≤ h.len i → is_old_in (G.id_of i l) es' ≡ true → (is_old_in (G.id_of i l) es ≡ true) ⊎ (h.done i l ≡ true)
    pub last : (i : ℕ) → last_recent es ≡ Some (G.id_of i (h.len i)) → (last_recent es' ≡ Some (G.id_of i (h.len i))) ⊎ (h.done i (h.len i) ≡ true)

  pub tidied-node : (G : Ghost) (h : Ledger B) (j : ℕ) (b : B) (o : Opmode) (e : ℕ) (es es' : List Entry) →
      Tidied G h es es' → NodeOk O G h j b o e es → NodeOk O G h j b o e es'
  tidied-node G h j b o e es es' T N =
      record {
        live = N.live;
        unwritten = λ p q. let u = N.unwritten p q in record { epoch = u.epoch; same = u.same; own = u.own; newest = λ r. newest (u.newest r) };
        written = N.written;
        settled = N.settled;
        list = record {
          short = N.list.short;
          listed = λ x t. N.list.listed x (T.listed x t);
          mine = λ x t. N.list.mine x (T.listed x t);
          undone = λ i l p a c d. T.recent i l a (le_trans c (N.list.short i)) d (N.list.undone i l p a c d);
          old = λ i l a c t. old i l a c (T.old i l a c t);
        };
        init = N.init;
        bare = N.bare;
      }
    where
      old : (i l : ℕ) → 1 ≤ l → l ≤ h.len i → (is_old_in (G.id_of i l) es ≡ true) ⊎ (h.done i l ≡ true) → h.done i l ≡ true
      old i l a c (inl t) = N.list.old i l a c t
      old i l a c (inr t) = t

      newest : (last_recent es ≡ Some (G.id_of j (h.len j))) ⊎ (h.done j (h.len j) ≡ true) →
          (last_recent es' ≡ Some (G.id_of j (h.len j))) ⊎ (h.done j (h.len j) ≡ true)
      newest (inl t) = T.last j t
      newest (inr t) = inr t

  -- the list of node j in another form
  abbrev pub relisted : Columns B → ℕ → List Entry → Columns B
  relisted s j es = set_entries (upd s.entries j es) s

  tidied-good : (h : Ledger B) (s : Columns B) (j : ℕ) (es : List Entry) (g : Good O h s) → Tidied g.ghost h (s.entries j) es → Good O h (relisted s j es)
  tidied-good h s j es g T =
      let I = g.inv in
      record {
        ghost = g.ghost;
        inv = record {
          ids = I.ids;
          node = upd-ind (λ m t. NodeOk O g.ghost h m (s.block m) (s.op m) (s.epoch m) t) s.entries j es
              (tidied-node g.ghost h j (s.block j) (s.op j) (s.epoch j) (s.entries j) es T (I.node j)) (λ m d. I.node m);
          pair = I.pair;
          hand = I.hand;
          finished = I.finished;
          unl = I.unl;
          weak = I.weak;
          phase = I.phase;
          rebuild = I.rebuild;
          one = I.one;
          shown = I.shown;
        };
      }

  pub discard-good : (h : Ledger B) (s : Columns B) (j : ℕ) (l : List WriteId) → Good O h s → Good O h (relisted s j (discard l (s.entries j)))
  discard-good h s j l g =
      tidied-good h s j (discard l es) g
      (record {
        listed = λ x. listed-discard x l es;
        recent = λ i y a b d t. recent-discard (id_of i y) l es ∙ t;
        old = λ i y a b t. inl (old-discard (id_of i y) l es t);
        last = λ i t. inl (last-discard l es ∙ t);
      })
    where
      es : List Entry
      es = s.entries j

      id_of : ℕ → ℕ → WriteId
      id_of = g.ghost.id_of

  -- a finished id is done
  pub mark-good : (h : Ledger B) (s : Columns B) (c j : ℕ) → Good O h s → Good O h (relisted s j (mark_old (s.finished c) (s.entries j)))
  mark-good h s c j g =
      tidied-good h s j (mark_old fin es) g
      (record {
        listed = λ x t. sym (listed-mark x fin es) ∙ t;
        recent = λ i y a b d t. recent-mark (id_of i y) fin es (is_false (is_in (id_of i y) fin) (λ q. clash (done i y a b q) d)) ∙ t;
        old = λ i y a b t. old i y a b t (bool_cases (is_in (id_of i y) fin));
        last = λ i t. last i (h.len i) refl t;
      })
    where
      es : List Entry
      es = s.entries j

      fin : List WriteId
      fin = s.finished c

      id_of : ℕ → ℕ → WriteId
      id_of = g.ghost.id_of

      done : (i y : ℕ) → 1 ≤ y → y ≤ h.len i → is_in (id_of i y) fin ≡ true → h.done i y ≡ true
      done i y a b q = (g.inv.finished c).done (id_of i y) q i y a b refl

      old : (i y : ℕ) → 1 ≤ y → y ≤ h.len i → is_old_in (id_of i y) (mark_old fin es) ≡ true → (is_in (id_of i y) fin ≡ true) ⊎ (is_in (id_of i y) fin ≡ false) →
          (is_old_in (id_of i y) es ≡ true) ⊎ (h.done i y ≡ true)
      old i y a b t (inl q) = inr (done i y a b q)
      old i y a b t (inr q) = inl (sym (old-mark (id_of i y) fin es q) ∙ t)

      last : (i y : ℕ) → y ≡ h.len i → last_recent es ≡ Some (id_of i y) → (last_recent (mark_old fin es) ≡ Some (id_of i y)) ⊎ (h.done i y ≡ true)
      last i zero e t = inr (g.inv.ids.zero_done i)
      last i (suc y) e t = go (bool_cases (is_in (id_of i (suc y)) fin))
        where
          go : (is_in (id_of i (suc y)) fin ≡ true) ⊎ (is_in (id_of i (suc y)) fin ≡ false) →
              (last_recent (mark_old fin es) ≡ Some (id_of i (suc y))) ⊎ (h.done i (suc y) ≡ true)
          go (inl q) = inr (done i (suc y) (omega arith) (omega arith) q)
          go (inr q) = inl (last-mark fin (id_of i (suc y)) es t q)

  -- the end of a round
  pub empty-finished-good : (h : Ledger B) (s : Columns B) (c : ℕ) → Good O h s → Good O h (set_finished (upd s.finished c []) s)
  empty-finished-good h s c g =
      let I = g.inv in
      record {
        ghost = g.ghost;
        inv = record {
          ids = I.ids;
          node = I.node;
          pair = I.pair;
          hand = I.hand;
          finished = upd-ind (λ d l. FinishedOk O g.ghost h d (s.next d) l) s.finished c []
              (record { done = λ x t. in-nil x t; client = λ x t. in-nil x t; number = λ x t. in-nil x t }) (λ d e. I.finished d);
          unl = I.unl;
          weak = I.weak;
          phase = I.phase;
          rebuild = I.rebuild;
          one = I.one;
          shown = I.shown;
        };
      }
