-- Add keeps the invariant. Assumes nothing.
use Rattle.std.specs.Prelude.{Option, None, Some}
use mathlib.Core.Path.{◌≡◌, refl, sym, ap, ap₂, subst, ◌∙◌}
use mathlib.Core.Logic.{◌≢◌, ◌⊎◌, inl, inr}
use mathlib.Core.Bool.{Bool, true, false, ◌||◌}
use mathlib.Core.List.{List, [], ◌∷◌, ◌++◌}
use Prim.Native.Nat.{ℕ, zero, suc, ◌≤◌, ◌<◌}
use native.Mathlib.Omega.{arith}
use Rattle.code.specs.Decode.{has, including}
use Rattle.entries.specs.declared.WriteId.{WriteId}
use Rattle.entries.specs.Entries.{Entry, same_id, is_listed, is_in, enter}
use Rattle.records.specs.Node.{is_init, is_norm}
use Rattle.records.specs.Client.{Write}
use Rattle.machine.specs.Writing.{with_done}
use Rattle.basics.proofs.Updates.{upd, upd_same, upd_other, upd-ind}
use Rattle.basics.proofs.Tests.{each-place, clash, is_false, some_same, not_some, or-one}
use Rattle.machine.proofs.EntryLaws.{same_id_lem, in-snoc}
use Rattle.machine.proofs.Columns.{Ops, is_unl, is_l0, Columns, set_blocks, set_entries, set_hands, set_finished}
use Rattle.machine.proofs.Ledger.{Ledger, note_done, upd2}
use Rattle.machine.proofs.Invariant.{Ghost, Laws, code, Spot, at, IdsOk, Own, HandOk, FinishedOk, Inv, Good}
use Rattle.machine.proofs.Frame.{of_live, counted, norm-live, upd2-same, upd2-pos, upd2-ind, code-red}
use Rattle.machine.proofs.Sets.{including-same, including-other}
use Rattle.machine.proofs.Entering.{Takes, all-norm, all-unwritten, Everywhere, DoneThen, Enters, entered, entered-hand, entered-inv}

-- "The previous id, if any, must be listed there"
abbrev pub previous_listed : Option WriteId → List Entry → Bool
previous_listed None es = true
previous_listed (Some x) es = is_listed x es

module _ (O : Ops) where
  open O use {B, k, n, diff, mul_add, parity}

  -- what an add needs, the write in hand being w
  pub record MayAdd (s : Columns B) (c j : ℕ) (w : Write) : Type 0 where
    pub hand : s.hand c ≡ Some w
    pub redundant : k < j
    pub high : j ≤ n
    pub todo : has w.done j ≡ false
    pub norm : is_norm (s.op j) ≡ true
    pub lock : (is_unl (s.lock j) || is_l0 (s.lock j)) ≡ true
    pub epoch : s.epoch j ≤ w.epoch.0
    pub previous : previous_listed w.previous (s.entries j) ≡ true

  -- the write in node j; then in hand still, or done
  abbrev pub added_to : Columns B → ℕ → ℕ → Write → Columns B
  added_to s c j w =
      set_blocks (upd s.block j (mul_add j w.id.position (s.block j) (s.difference c)))
      (set_entries (upd s.entries j (enter w.id (s.entries j))) s)

  abbrev pub added : Columns B → ℕ → ℕ → Write → Columns B
  added s c j w = set_hands (upd s.hand c (Some (with_done w (including j w.done)))) (added_to s c j w)

  abbrev pub added_last : Columns B → ℕ → ℕ → Write → Columns B
  added_last s c j w = set_hands (upd s.hand c None) (set_finished (upd s.finished c (s.finished c ++ (w.id ∷ []))) (added_to s c j w))

  module _ (L : Laws O) {G : Ghost} {h : Ledger B} {s : Columns B} (I : Inv O G h s) {c j : ℕ} {w : Write} (M : MayAdd s c j w) where
    live : is_init (s.op j) ≡ false
    live = norm-live (s.op j) M.norm

    hand-ok : HandOk O G h s.op c (s.difference c) w
    hand-ok = I.hand c w M.hand

    -- a settled node has too late an epoch, and with one NORM node settled all are
    takes : Takes O G s j
    takes =
        record {
          norm = M.norm;
          lock = M.lock;
          unsettled = λ m. is_false (G.is_settled m) (λ e.
              let a = ((I.node j).settled ((I.pair m j).together e M.norm)).later in let b = hand-ok.epoch in let d = M.epoch in absurd (omega arith));
        }

    -- the node's epoch tells that no rebuild has finished since the write's swap
    own : Own O G h s.op c (s.difference c) w
    own = hand-ok.own (let a = hand-ok.epoch in let b = M.epoch in let d = (all-unwritten O I takes j live).epoch in omega arith)

    -- the write is swap suc q at i
    abbrev i : ℕ
    i = w.id.position

    abbrev q : ℕ
    q = own.q

    abbrev G' : Ghost
    G' = entered O G G.id_of j i q

    spot : Spot O j i
    spot = record { pos = own.pos; sees = inr M.redundant }

    -- the one before it is in the node
    reached : q ≤ G.in_block j i
    reached = go own.prev
      where
        in_list : (p : ℕ) → p ≤ h.len i → is_listed (G.id_of i p) (s.entries j) ≡ true → p ≤ G.in_block j i
        in_list zero high e = omega arith
        in_list (suc p) high e = let a = (counted O I j i (suc p) (omega arith) high e).1 in let b = (all-unwritten O I takes j live).same i spot in omega arith

        go : (w.previous ≡ Some (G.id_of i q)) ⊎ (h.done i q ≡ true) → q ≤ G.in_block j i
        go (inl e) = in_list q (let a = own.high in omega arith) (subst (λ p. previous_listed p (s.entries j) ≡ true) e M.previous)
        go (inr e) = (((I.node j).live live).between i spot).least q e

    -- and the write itself is not
    before : G.in_block j i ≡ q
    before = let a = reached in let b = own.not_done j M.redundant M.norm (takes.unsettled j) M.todo in omega arith

    block : mul_add j i (s.block j) (s.difference c) ≡ code O j (at O h (upd (G.in_block j) i (suc q)))
    block =
        ap₂ (mul_add j i) (((I.node j).live live).block ∙ code-red O j was M.redundant)
        (own.difference ∙ ap (λ t. diff (h.val i (suc q)) (h.val i t)) (sym before))
        ∙ sym (L.parity_upd j i was (h.val i (suc q)) M.redundant M.high own.pos)
        ∙ L.parity_ext j (upd was i (h.val i (suc q))) (at O h (upd (G.in_block j) i (suc q))) (λ y p. same y)
        ∙ sym (code-red O j (at O h (upd (G.in_block j) i (suc q))) M.redundant)
      where
        was : ℕ → B
        was = at O h (G.in_block j)

        same : (y : ℕ) → upd was i (h.val i (suc q)) y ≡ h.val y (upd (G.in_block j) i (suc q) y)
        same =
            upd-ind (λ y t. upd was i (h.val i (suc q)) y ≡ h.val y t) (G.in_block j) i (suc q) (upd_same was i (h.val i (suc q)))
            (upd_other was i (h.val i (suc q)))

    ---- dn is done after the add: the same, or this write besides
    module _ {dn : ℕ → ℕ → Bool} (D : DoneThen O G h s j i q dn) where
      abbrev h' : Ledger B
      h' = record { len = h.len; val = h.val; done = dn; last = h.last; stale = h.stale; settles = h.settles; failed = h.failed }

      enters : Enters O G h h' s G.id_of j i q w.id (mul_add j i (s.block j) (s.difference c))
      enters =
          record {
            spot = spot;
            before = before;
            is = sym own.is;
            position = refl;
            high = own.high;
            block = block;
            newest = λ a. let b = M.redundant in absurd (omega arith);
            val = λ y l a. refl;
            id_of = λ y l a. refl;
            len = λ y. omega arith;
            own = λ m d a. refl;
            failed = λ e. e;
            done = D;
            new = λ m y l a b. inl b;
          }

      ids : IdsOk O G' h' s.next
      ids =
          record {
            id_of-pos = I.ids.id_of-pos;
            id_of-inj = I.ids.id_of-inj;
            id_of-old = I.ids.id_of-old;
            zero_done = λ y. D.still y 0 (I.ids.zero_done y);
            done_len = λ y l e. done_len y l (D.only y l e);
            no_stale = I.ids.no_stale;
          }
        where
          done_len : (y l : ℕ) → (h.done y l ≡ true) ⊎ ((y ≡ i) × (l ≡ suc q) × Everywhere O G s j i q) → l ≤ h.len y
          done_len y l (inl e) = I.ids.done_len y l e
          done_len y l (inr (e, f, all)) = rw (e, f) own.high

      -- c has t in hand then
      hands : (t : Option Write) → ((u : Write) → t ≡ Some u → HandOk O G' h' s.op c (s.difference c) u) →
          (d : ℕ) (u : Write) → upd s.hand c t d ≡ Some u → HandOk O G' h' s.op d (s.difference d) u
      hands t here = upd-ind (λ d t. (u : Write) → t ≡ Some u → HandOk O G' h' s.op d (s.difference d) u) s.hand c t here others
        where
          others : (d : ℕ) → c ≢ d → (u : Write) → s.hand d ≡ Some u → HandOk O G' h' s.op d (s.difference d) u
          others d ne u e =
              entered-hand O L I takes enters d (s.difference d) u refl
              (λ p a b t f g. ne (sym own.client ∙ ap (λ (x : WriteId). x.client) (own.is ∙ (λ z. G.id_of (sym f z) (suc (sym g z))) ∙ sym b) ∙ t))
              (I.hand d u e)

      finished-lists : (d : ℕ) → FinishedOk O G' h' d (s.next d) (s.finished d)
      finished-lists d =
          let v = I.finished d in
          record { done = λ x e y l a b f. D.still y l (v.done x e y l a b f); client = v.client; number = v.number }

    done-other : (m : ℕ) → is_init (s.op m) ≡ false → j ≢ m → has (including j w.done) m ≡ has w.done m
    done-other m a = including-other L (of_live O ((I.node m).live a)) w.done j

    ---- Added: the hand still has the write
    abbrev w' : Write
    w' = with_done w (including j w.done)

    mine : HandOk O G' h s.op c (s.difference c) w'
    mine =
        record {
          epoch = hand-ok.epoch;
          own = λ t. record {
            q = q;
            high = own.high;
            pos = own.pos;
            is = own.is;
            client = own.client;
            undone = own.undone;
            difference = own.difference;
            prev = own.prev;
            last = own.last;
            in_done = each-place (λ m. k < m → is_norm (s.op m) ≡ true → G.is_settled m ≡ false → has w'.done m ≡ true → suc q ≤ G'.in_block m i) j
                (λ a b e f. rw (upd2-same G.in_block j i (suc q)) (omega arith))
                (λ m d a b e f. rw (upd2-pos G.in_block j i (suc q) m i d) (own.in_done m a b e (sym (done-other m (norm-live (s.op m) b) d) ∙ f)));
            not_done = each-place (λ m. k < m → is_norm (s.op m) ≡ true → G.is_settled m ≡ false → has w'.done m ≡ false → G'.in_block m i ≤ q) j
                (λ a b e f. clash (including-same L (of_live O ((I.node j).live live)) w.done) f)
                (λ m d a b e f. rw (upd2-pos G.in_block j i (suc q) m i d) (own.not_done m a b e (sym (done-other m (norm-live (s.op m) b) d) ∙ f)));
          };
        }

    more-inv : Inv O G' h (added s c j w)
    more-inv =
        entered-inv O L I takes (enters as_before) s.next (upd s.hand c (Some w')) s.difference s.finished (ids as_before)
        (hands as_before (Some w') (λ u e. subst (HandOk O G' h s.op c (s.difference c)) (some_same e) mine)) (finished-lists as_before)
      where
        as_before : DoneThen O G h s j i q h.done
        as_before = record { still = λ y l e. e; only = λ y l e. inl e }

    ---- Done: the write is in every node
    module _ (complete : (m : ℕ) → k < m → m ≤ n → has (including j w.done) m ≡ true) where
      everywhere : Everywhere O G s j i q
      everywhere =
          each-place (λ m. is_init (s.op m) ≡ false → Spot O m i → suc q ≤ upd2 G.in_block j i (suc q) m i) j
          (λ a p. rw (upd2-same G.in_block j i (suc q)) (omega arith))
          (λ m d a p. rw (upd2-pos G.in_block j i (suc q) m i d) (there m d a p.sees))
        where
          there : (m : ℕ) → j ≢ m → is_init (s.op m) ≡ false → (i ≡ m) ⊎ (k < m) → suc q ≤ G.in_block m i
          there m d a (inl e) =
              subst (λ y. suc q ≤ G.in_block m y) (sym e)
              (rw ((all-unwritten O I takes m a).own (rw e at own.pos.high)) (subst (λ y. suc q ≤ h.len y) e own.high))
          there m d a (inr e) = own.in_done m e (all-norm O I takes m a) (takes.unsettled m) (sym (done-other m a d) ∙ complete m e ((I.node m).live a).high)

      abbrev dn : ℕ → ℕ → Bool
      dn = upd2 h.done i (suc q) true

      besides : DoneThen O G h s j i q dn
      besides =
          record {
            still = upd2-ind (λ y l t. h.done y l ≡ true → t ≡ true) h.done i (suc q) true (λ e. refl) (λ y l d e. e);
            only = upd2-ind (λ y l t. t ≡ true → (h.done y l ≡ true) ⊎ ((y ≡ i) × (l ≡ suc q) × Everywhere O G s j i q)) h.done i (suc q) true
                (λ e. inr (refl, refl, everywhere)) (λ y l d e. inl e);
          }

      -- the finished list then, and its ids
      abbrev finished' : List WriteId
      finished' = s.finished c ++ (w.id ∷ [])

      finished-cases : (P : WriteId → Type 0) → P w.id → ((x : WriteId) → is_in x (s.finished c) ≡ true → P x) → (x : WriteId) → is_in x finished' ≡ true
          → P x
      finished-cases P p f x e = go (or-one (is_in x (s.finished c)) (same_id w.id x) (sym (in-snoc x w.id (s.finished c)) ∙ e))
        where
          go : (is_in x (s.finished c) ≡ true) ⊎ (same_id w.id x ≡ true) → P x
          go (inl t) = f x t
          go (inr t) = subst P (same_id_lem w.id x t) p

      own-finished : FinishedOk O G' (h' besides) c (s.next c) finished'
      own-finished =
          record {
            done = finished-cases (λ x. (y l : ℕ) → 1 ≤ l → l ≤ h.len y → G.id_of y l ≡ x → dn y l ≡ true) done
                (λ x e y l a b t. besides.still y l ((I.finished c).done x e y l a b t));
            client = finished-cases (λ x. x.client ≡ c) own.client (I.finished c).client;
            number = finished-cases (λ x. x.number.0 < s.next c)
                (rw (← own.is, own.client) at (I.ids.id_of-old i (suc q) (omega arith) own.high)) (I.finished c).number;
          }
        where
          done : (y l : ℕ) → 1 ≤ l → l ≤ h.len y → G.id_of y l ≡ w.id → dn y l ≡ true
          done y l a b e =
              let yi : y ≡ i = sym (I.ids.id_of-pos y l a b) ∙ ap (λ (x : WriteId). x.position) e in
              let same : G.id_of i l ≡ G.id_of i (suc q) = ap (λ t. G.id_of t l) (sym yi) ∙ e ∙ own.is in
              let lq : l ≡ suc q = I.ids.id_of-inj i l (suc q) a (subst (λ t. l ≤ h.len t) yi b) (omega arith) own.high same in
              (λ z. dn (yi z) (lq z)) ∙ upd2-same h.done i (suc q) true

      done-inv : Inv O G' (note_done h (Some (record { pos = i; place = suc q }))) (added_last s c j w)
      done-inv =
          entered-inv O L I takes (enters besides) s.next (upd s.hand c None) s.difference (upd s.finished c finished') (ids besides)
          (hands besides None (λ u e. not_some e))
          (upd-ind (λ d t. FinishedOk O G' (h' besides) d (s.next d) t) s.finished c finished' own-finished (λ d e. finished-lists besides d))

  pub add-more-good : Laws O → (h : Ledger B) (s : Columns B) (c j : ℕ) (w : Write) → Good O h s → MayAdd s c j w → Good O h (added s c j w)
  add-more-good L h s c j w g M = record { ghost = _; inv = more-inv L g.inv M }

  pub add-done-good : Laws O → (h : Ledger B) (s : Columns B) (c j : ℕ) (w : Write) → Good O h s → MayAdd s c j w →
      ((m : ℕ) → k < m → m ≤ n → has (including j w.done) m ≡ true) → Good O (note_done h (h.last c)) (added_last s c j w)
  add-done-good L h s c j w g M complete =
      subst (λ t. Good O (note_done h t) (added_last s c j w)) (sym (own L g.inv M).last) (record { ghost = _; inv = done-inv L g.inv M complete })
