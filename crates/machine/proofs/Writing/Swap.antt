-- Swap keeps the invariant. Assumes nothing.
use Rattle.std.specs.Prelude.{Option, Some}
use mathlib.Core.Path.{◌≡◌, refl, sym, ap, ap₂, subst, ◌∙◌}
use mathlib.Core.Logic.{◌≢◌, ◌⊎◌, inl, inr}
use mathlib.Core.Bool.{true, false}
use Prim.Native.Nat.{ℕ, suc, ◌≤◌, ◌<◌}
use native.Mathlib.Nat.{le_trans}
use native.Mathlib.Omega.{arith}
use Rattle.code.specs.Decode.{has, no_nodes, including}
use Rattle.entries.specs.declared.WriteId.{WriteId}
use Rattle.entries.specs.Entries.{is_old_in, is_in, last_recent, enter}
use Rattle.records.specs.Node.{is_init, is_norm}
use Rattle.records.specs.Client.{Write}
use Rattle.basics.proofs.Updates.{upd, upd_same, upd_other, upd-ind}
use Rattle.basics.proofs.Tests.{each-place, clash, is_false, some_same, or_left}
use Rattle.machine.proofs.EntryLaws.{old-listed}
use Rattle.machine.proofs.Columns.{Ops, is_unl, is_l0, Columns, set_blocks, set_entries, set_hands, set_nexts, set_differences}
use Rattle.machine.proofs.Ledger.{Ledger, IsPos, note_swap, upd2}
use Rattle.machine.proofs.Invariant.{Ghost, Laws, Spot, at, IdsOk, Unwritten, HandOk, FinishedOk, Inv, Good}
use Rattle.machine.proofs.Frame.{norm-live, upd2-same, upd2-pos, upd2-ind, place-ind, code-data, of_live}
use Rattle.machine.proofs.Sets.{no-nodes, including-other}
use Rattle.machine.proofs.Entering.{Takes, all-unwritten, Enters, entered, entered-hand, entered-inv}

module _ (O : Ops) where
  open O use {B, k, n, diff}

  abbrev pub new_id : Columns B → ℕ → ℕ → WriteId
  new_id s c i = record { client = c; position = i; number = record { 0 = s.next c } }

  abbrev pub new_write : Columns B → ℕ → ℕ → Write
  new_write s c i = record { id = new_id s c i; previous = last_recent (s.entries i); epoch = record { 0 = s.epoch i }; done = including i no_nodes }

  abbrev pub swapped : Columns B → ℕ → ℕ → B → Columns B
  swapped s c i v =
      set_blocks (upd s.block i v)
      (set_entries (upd s.entries i (enter (new_id s c i) (s.entries i)))
      (set_nexts (upd s.next c (suc (s.next c)))
      (set_hands (upd s.hand c (Some (new_write s c i))) (set_differences (upd s.difference c (diff v (s.block i))) s))))

  module _ (L : Laws O) {G : Ghost} {h : Ledger B} {s : Columns B} (I : Inv O G h s)
      (c i : ℕ) (v : B) (P : IsPos O i) (norm : is_norm (s.op i) ≡ true) (unl : is_unl (s.lock i) ≡ true) where
    -- it is swap suc q at i
    abbrev q : ℕ
    q = h.len i

    abbrev id : WriteId
    id = new_id s c i

    abbrev id_of' : ℕ → ℕ → WriteId
    id_of' = upd2 G.id_of i (suc q) id

    abbrev G' : Ghost
    G' = entered O G id_of' i i q

    abbrev h' : Ledger B
    h' = note_swap h c i v

    abbrev next' : ℕ → ℕ
    next' = upd s.next c (suc (s.next c))

    abbrev hand' : ℕ → Option Write
    hand' = upd s.hand c (Some (new_write s c i))

    abbrev difference' : ℕ → B
    difference' = upd s.difference c (diff v (s.block i))

    live : is_init (s.op i) ≡ false
    live = norm-live (s.op i) norm

    takes : Takes O G s i
    takes =
        record {
          norm = norm;
          lock = or_left (is_unl (s.lock i)) (is_l0 (s.lock i)) unl;
          unsettled = λ m. is_false (G.is_settled m) (λ e. clash unl (I.unl ((I.node m).settled e).on.under_way i live));
        }

    unwritten : Unwritten O G h i (s.epoch i) (s.entries i)
    unwritten = all-unwritten O I takes i live

    ---- what was known stays
    len_grows : (y : ℕ) → h.len y ≤ h'.len y
    len_grows = upd-ind (λ y a. h.len y ≤ a) h.len i (suc q) (omega arith) (λ y d. omega arith)

    old-place : {A : Type 0} (f : ℕ → ℕ → A) (a : A) (y l : ℕ) → l ≤ h.len y → upd2 f i (suc q) a y l ≡ f y l
    old-place f a = upd2-ind (λ y l b. l ≤ h.len y → b ≡ f y l) f i (suc q) a (λ t. absurd (omega arith)) (λ y l d t. refl)

    ---- the id is new
    new-id : (y l : ℕ) → 1 ≤ l → l ≤ h.len y → G.id_of y l ≢ id
    new-id y l a b e =
        let number = ap (λ (x : WriteId). x.number.0) e in
        let client : (G.id_of y l).client ≡ c = ap (λ (x : WriteId). x.client) e in
        let earlier : (G.id_of y l).number.0 < s.next c = rw client at (I.ids.id_of-old y l a b) in
        omega arith

    not-old : (m : ℕ) → is_old_in id (s.entries m) ≡ false
    not-old m =
        is_false (is_old_in id (s.entries m)) (λ e.
        let a = (I.node m).list.listed id (old-listed id (s.entries m) e) in
        absurd (new-id i a.l a.low (le_trans a.high ((I.node m).list.short i)) a.is))

    enters : Enters O G h h' s id_of' i i q id v
    enters =
        record {
          spot = spot;
          before = unwritten.own P.high;
          is = upd2-same G.id_of i (suc q) id;
          position = refl;
          high = rw (upd_same h.len i (suc q)) (omega arith);
          block =
              sym (code-data O i (at O h' (upd (G.in_block i) i (suc q))) P.high
              ∙ ap (h'.val i) (upd_same (G.in_block i) i (suc q)) ∙ upd2-same h.val i (suc q) v);
          newest = λ a. (refl, upd_same h.len i (suc q));
          val = old-place h.val v;
          id_of = old-place G.id_of id;
          len = len_grows;
          own = λ m d a. upd_other h.len i (suc q) m d;
          failed = λ e. e;
          done = record { still = λ y l e. e; only = λ y l e. inl e };
          new = λ m y l a. place-ind (λ y l. (l ≤ h.len y) ⊎ (is_old_in (id_of' y l) (s.entries m) ≡ false)) h.len i
              (inr (rw (upd2-same G.id_of i (suc q) id) (not-old m))) (λ y l b. inl b) y l;
        }
      where
        spot : Spot O i i
        spot = record { pos = P; sees = inl refl }

    next_grows : (d a : ℕ) → a < s.next d → a < next' d
    next_grows d a = upd-ind (λ d b. a < s.next d → a < b) s.next c (suc (s.next c)) (λ t. omega arith) (λ d e t. t) d

    ---- ids
    new-place : (y l : ℕ) → l ≤ h'.len y → 1 ≤ l → id_of' y l ≡ id → l ≡ suc q
    new-place =
        place-ind (λ y l. 1 ≤ l → id_of' y l ≡ id → l ≡ suc q) h.len i (λ a e. refl)
        (λ y l b a e. absurd (new-id y l a b (sym (old-place G.id_of id y l b) ∙ e)))

    injective : (y l : ℕ) → l ≤ h'.len y → (m : ℕ) → m ≤ h'.len y → 1 ≤ l → 1 ≤ m → id_of' y l ≡ id_of' y m → l ≡ m
    injective =
        place-ind (λ y l. (m : ℕ) → m ≤ h'.len y → 1 ≤ l → 1 ≤ m → id_of' y l ≡ id_of' y m → l ≡ m) h.len i
        (λ m b a a' e. sym (new-place i m b a' (sym e ∙ upd2-same G.id_of i (suc q) id)))
        (λ y l b m b'. place-ind (λ y m. l ≤ h.len y → 1 ≤ l → 1 ≤ m → id_of' y l ≡ id_of' y m → l ≡ m) h.len i
        (λ b a a' e. new-place i l (le_trans b (len_grows i)) a (e ∙ upd2-same G.id_of i (suc q) id))
        (λ y m b' b a a' e. I.ids.id_of-inj y l m a b a' b' (sym (old-place G.id_of id y l b) ∙ e ∙ old-place G.id_of id y m b')) y m b' b)

    ids : IdsOk O G' h' next'
    ids =
        record {
          id_of-pos = λ y l a b. place-ind (λ y l. 1 ≤ l → (id_of' y l).position ≡ y) h.len i (λ a. rw (upd2-same G.id_of i (suc q) id))
              (λ y l b a. rw (old-place G.id_of id y l b) (I.ids.id_of-pos y l a b)) y l b a;
          id_of-inj = λ y l m a b a' b'. injective y l b m b' a a';
          id_of-old = λ y l a b. place-ind (λ y l. 1 ≤ l → (id_of' y l).number.0 < next' (id_of' y l).client) h.len i
              (λ a. rw (upd2-same G.id_of i (suc q) id, upd_same s.next c (suc (s.next c))) (omega arith))
              (λ y l b a. rw (old-place G.id_of id y l b) (next_grows (G.id_of y l).client (G.id_of y l).number.0 (I.ids.id_of-old y l a b))) y l b a;
          zero_done = I.ids.zero_done;
          done_len = λ y l e. le_trans (I.ids.done_len y l e) (len_grows y);
          no_stale = I.ids.no_stale;
        }

    ---- the hands: the write is in the swapped node alone
    mine : HandOk O G' h' s.op c (diff v (s.block i)) (new_write s c i)
    mine =
        record {
          epoch = rw unwritten.epoch (omega arith);
          own = λ t. record {
            q = q;
            high = enters.high;
            pos = P;
            is = sym enters.is;
            client = refl;
            undone = is_false (h.done i (suc q)) (λ e. let a = I.ids.done_len i (suc q) e in absurd (omega arith));
            difference = ap₂ diff (sym (upd2-same h.val i (suc q) v)) (old-block ∙ sym (old-place h.val v i q (omega arith)));
            prev = previous (unwritten.newest P.high);
            last = upd_same h.last c (Some (record { pos = i; place = suc q }));
            in_done = λ j a b e f. clash f (not_in j a b);
            not_done = λ j a b e f. rw (upd2-pos G.in_block i i (suc q) j i (apart j a))
                (((I.node j).live (norm-live (s.op j) b)).between i (record { pos = P; sees = inr a })).most;
          };
        }
      where
        apart : (j : ℕ) → k < j → i ≢ j
        apart j a e = let b = P.high in omega arith

        not_in : (j : ℕ) → k < j → is_norm (s.op j) ≡ true → has (including i no_nodes) j ≡ false
        not_in j a b = including-other L (of_live O ((I.node j).live (norm-live (s.op j) b))) no_nodes i (apart j a) ∙ no-nodes j

        old-block : s.block i ≡ h.val i q
        old-block = ((I.node i).live live).block ∙ code-data O i (at O h (G.in_block i)) P.high ∙ ap (h.val i) (unwritten.own P.high)

        previous : (last_recent (s.entries i) ≡ Some (G.id_of i q)) ⊎ (h.done i q ≡ true) → (last_recent (s.entries i) ≡ Some (id_of' i q)) ⊎ (h.done i q ≡ true)
        previous (inl e) = inl (e ∙ ap Some (sym (old-place G.id_of id i q (omega arith))))
        previous (inr e) = inr e

    hands : (d : ℕ) (w : Write) → hand' d ≡ Some w → HandOk O G' h' s.op d (difference' d) w
    hands =
        each-place (λ d. (w : Write) → hand' d ≡ Some w → HandOk O G' h' s.op d (difference' d) w) c
        (rw (upd_same s.hand c (Some (new_write s c i)), upd_same s.difference c (diff v (s.block i)))
        (λ w e. subst (HandOk O G' h' s.op c (diff v (s.block i))) (some_same e) mine))
        (λ d ne. rw (upd_other s.hand c (Some (new_write s c i)) d ne, upd_other s.difference c (diff v (s.block i)) d ne)
        (λ w e. entered-hand O L I takes enters d (s.difference d) w (upd_other h.last c (Some (record { pos = i; place = suc q })) d ne)
        (λ p a b t f. another p w.id.position a f) (I.hand d w e)))
      where
        another : (p y : ℕ) → suc p ≤ h.len y → y ≡ i → p ≢ q
        another p y a e f = let b : suc p ≤ q = rw e at a in omega arith

    finished-lists : (d : ℕ) → FinishedOk O G' h' d (next' d) (s.finished d)
    finished-lists d =
        record {
          done = λ x e y l a b. place-ind (λ y l. 1 ≤ l → id_of' y l ≡ x → h.done y l ≡ true) h.len i
              (λ a t. absurd (not_new x e (sym (upd2-same G.id_of i (suc q) id) ∙ t)))
              (λ y l b a t. (I.finished d).done x e y l a b (sym (old-place G.id_of id y l b) ∙ t)) y l b a;
          client = (I.finished d).client;
          number = λ x e. next_grows d x.number.0 ((I.finished d).number x e);
        }
      where
        not_new : (x : WriteId) → is_in x (s.finished d) ≡ true → id ≢ x
        not_new x e t =
            let a : s.next c < s.next d = rw (← t) at ((I.finished d).number x e) in
            let b : c ≡ d = rw (← t) at ((I.finished d).client x e) in
            let f = ap s.next b in omega arith

    swap-inv : Inv O G' h' (swapped s c i v)
    swap-inv =
        entered-inv O L I takes enters next' hand' difference' s.finished ids hands finished-lists

  pub swap-good : Laws O → (h : Ledger B) (s : Columns B) (c i : ℕ) (v : B) → Good O h s → IsPos O i →
      is_norm (s.op i) ≡ true → is_unl (s.lock i) ≡ true → Good O (note_swap h c i v) (swapped s c i v)
  swap-good L h s c i v g P norm unl = record { ghost = _; inv = swap-inv L g.inv c i v P norm unl }
