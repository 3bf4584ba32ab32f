-- What is shared by the calls: what follows from a node's modes, and what the records of the invariant need when others change. Assumes nothing.
use Rattle.std.specs.Prelude.{Some}
use mathlib.Core.Path.{◌≡◌, refl, sym, ap, ap₂, subst, ◌∙◌}
use mathlib.Core.Logic.{◌≢◌, ◌⊎◌, inl, inr}
use mathlib.Core.Bool.{Bool, true, false, ◌||◌}
use mathlib.Core.List.{List}
use Prim.Native.Nat.{ℕ, suc, ◌≤◌, ◌<◌}
use native.Mathlib.Nat.{le_trans}
use native.Mathlib.Omega.{arith}
use lib.Dec.{leb}
use borrow.Author.Tests.{leb-true, leb-false, le-leb, lt-leb}
use Rattle.entries.specs.declared.WriteId.{WriteId}
use Rattle.entries.specs.Entries.{Entry, is_listed, is_recent_in, is_old_in, last_recent}
use Rattle.records.specs.declared.Opmode.{Opmode}
use Rattle.records.specs.declared.Opmode.TheVariants.{Norm, Recons, Init}
use Rattle.records.specs.Node.{is_init, is_norm, is_recons}
use Rattle.records.specs.Client.{Write, Rebuild, NoRebuild, Locking, Picking, Writing, Settling, Unlocking}
use Rattle.basics.proofs.Updates.{upd, upd_same, upd_other}
use Rattle.basics.proofs.Tests.{same_or, clash, is_false}
use Rattle.machine.proofs.Columns.{Ops, Lock, L1, is_unl, is_l0, Columns}
use Rattle.machine.proofs.Ledger.{Ledger, IsPos, upd2}
use Rattle.machine.proofs.Invariant.{Ghost, Laws, code, IsNode, Spot, at, Between, Live, Unwritten, OnCut, Settled, Among, ListOk, NodeOk, Own, HandOk, writes, PhaseOk, RebuildOk, Inv}

-- modes
pub live-cases : (o : Opmode) → is_init o ≡ false → (is_norm o ≡ true) ⊎ (is_recons o ≡ true)
live-cases Norm e = inl refl
live-cases Recons e = inr refl
live-cases Init e = clash refl e

pub norm-live : (o : Opmode) → is_norm o ≡ true → is_init o ≡ false
norm-live Norm e = refl
norm-live Recons e = refl
norm-live Init e = clash e refl

pub recons-live : (o : Opmode) → is_recons o ≡ true → is_init o ≡ false
recons-live Norm e = refl
recons-live Recons e = refl
recons-live Init e = clash e refl

pub norm-recons : {A : Type 0} (o : Opmode) → is_norm o ≡ true → is_recons o ≡ true → A
norm-recons Norm e f = clash f refl
norm-recons Recons e f = clash e refl
norm-recons Init e f = clash e refl

module _ {A : Type 0} where
  pub upd2-same : (f : ℕ → ℕ → A) (i l : ℕ) (a : A) → upd2 f i l a i l ≡ a
  unfolding upd2
  upd2-same f i l a = ap (λ g. g l) (upd_same f i (upd (f i) l a)) ∙ upd_same (f i) l a

  pub upd2-pos : (f : ℕ → ℕ → A) (i l : ℕ) (a : A) (i' l' : ℕ) → i ≢ i' → upd2 f i l a i' l' ≡ f i' l'
  unfolding upd2
  upd2-pos f i l a i' l' h = ap (λ g. g l') (upd_other f i (upd (f i) l a) i' h)

  pub upd2-at : (f : ℕ → ℕ → A) (i l : ℕ) (a : A) (l' : ℕ) → upd2 f i l a i l' ≡ upd (f i) l a l'
  unfolding upd2
  upd2-at f i l a l' = ap (λ g. g l') (upd_same f i (upd (f i) l a))

  pub upd2-other : (f : ℕ → ℕ → A) (i l : ℕ) (a : A) (i' l' : ℕ) → l ≢ l' → upd2 f i l a i' l' ≡ f i' l'
  upd2-other f i l a i' l' h = go (same_or i i')
    where
      go : (i ≡ i') ⊎ (i ≢ i') → upd2 f i l a i' l' ≡ f i' l'
      go (inl e) = subst (λ x. upd2 f i l a x l' ≡ f x l') e (upd2-at f i l a l' ∙ upd_other (f i) l a l' h)
      go (inr q) = upd2-pos f i l a i' l' q

  -- one place changed in a table
  pub upd2-ind : (P : ℕ → ℕ → A → Type 0) (f : ℕ → ℕ → A) (i l : ℕ) (a : A) → P i l a → ((i' l' : ℕ) → ((i ≡ i') × (l ≡ l') → ⊥) → P i' l' (f i' l'))
      → (i' l' : ℕ) → P i' l' (upd2 f i l a i' l')
  upd2-ind P f i l a p q i' l' = go (same_or i i') (same_or l l')
    where
      go : (i ≡ i') ⊎ (i ≢ i') → (l ≡ l') ⊎ (l ≢ l') → P i' l' (upd2 f i l a i' l')
      go (inl e) (inl d) = subst (λ x. P x l' (upd2 f i l a x l')) e (subst (λ y. P i y (upd2 f i l a i y)) d (subst (λ y. P i l y) (sym (upd2-same f i l a)) p))
      go (inl e) (inr d) = subst (λ y. P i' l' y) (sym (upd2-other f i l a i' l' d)) (q i' l' (λ h. d h.1))
      go (inr e) d = subst (λ y. P i' l' y) (sym (upd2-pos f i l a i' l' e)) (q i' l' (λ h. e h.0))

-- one count raised: a place within is the new one or one of before
pub place-ind : (P : ℕ → ℕ → Type 0) (len : ℕ → ℕ) (i : ℕ) → P i (suc (len i)) → ((i' l : ℕ) → l ≤ len i' → P i' l) → (i' l : ℕ)
    → l ≤ upd len i (suc (len i)) i' → P i' l
place-ind P len i p q i' l h = go (same_or i i')
  where
    last : (l ≡ suc (len i)) ⊎ (l ≢ suc (len i)) → l ≤ suc (len i) → P i l
    last (inl e) b = subst (λ x. P i x) (sym e) p
    last (inr d) b = q i l (omega arith)

    go : (i ≡ i') ⊎ (i ≢ i') → P i' l
    go (inl e) = subst (λ x. P x l) e (last (same_or l (suc (len i))) (subst (λ t. l ≤ t) (upd_same len i (suc (len i))) (subst (λ x. l ≤ upd len i (suc (len i)) x) (sym e) h)))
    go (inr d) = q i' l (subst (λ t. l ≤ t) (upd_other len i (suc (len i)) i' d) h)

module _ (O : Ops) where
  open O use {B, k, n, zeroes, diff, mul_add, parity, decode}

  pub code-data : (j : ℕ) (x : ℕ → B) → j ≤ k → code O j x ≡ x j
  unfolding code
  code-data j x h = rw (le-leb j k h)

  pub code-red : (j : ℕ) (x : ℕ → B) → k < j → code O j x ≡ parity j x
  unfolding code
  code-red j x h = rw (lt-leb j k h)

  pub code-ext : Laws O → (j : ℕ) (x y : ℕ → B) → 1 ≤ j → ((i : ℕ) → Spot O j i → x i ≡ y i) → code O j x ≡ code O j y
  code-ext L j x y low f = go (leb j k) refl
    where
      go : (t : Bool) → leb j k ≡ t → code O j x ≡ code O j y
      go true e = code-data j x (leb-true j k e) ∙ f j (record { pos = record { low = low; high = leb-true j k e }; sees = inl refl }) ∙ sym (code-data j y (leb-true j k e))
      go false e =
          code-red j x (leb-false j k e) ∙ L.parity_ext j x y (λ i p. f i (record { pos = p; sees = inr (leb-false j k e) })) ∙ sym (code-red j y (leb-false j k e))

  -- node j's list, itself left alone
  pub list-frame : (G G' : Ghost) (h h' : Ledger B) (j : ℕ) (es : List Entry) → ((i : ℕ) → G'.in_list j i ≡ G.in_list j i) →
      ((i l : ℕ) → l ≤ h.len i → G'.id_of i l ≡ G.id_of i l) → ((i : ℕ) → h.len i ≤ h'.len i) → ((i l : ℕ) → h.done i l ≡ true → h'.done i l ≡ true) →
      ((i l : ℕ) → 1 ≤ l → l ≤ h'.len i → (l ≤ h.len i) ⊎ (is_old_in (G'.id_of i l) es ≡ false)) → ListOk O G h j es → ListOk O G' h' j es
  list-frame G G' h h' j es in_list id_of len done new v =
      record {
        short = λ i. let a = v.short i in let c = len i in let d = in_list i in omega arith;
        listed = λ x p. among x (v.listed x p);
        mine = v.mine;
        undone = λ i l p a c d. subst (λ x. is_recent_in x es ≡ true) (sym (id_of i l (shorter i l c))) (v.undone i l p a (subst (λ t. l ≤ t) (in_list i) c) (is_false (h.done i l) (λ t. clash (done i l t) d)));
        old = λ i l a c d. old i l a d (new i l a c);
      }
    where
      shorter : (i l : ℕ) → l ≤ G'.in_list j i → l ≤ h.len i
      shorter i l c = let a = v.short i in let d = in_list i in omega arith

      among : (x : WriteId) → Among O G (G.in_list j x.position) x → Among O G' (G'.in_list j x.position) x
      among x a =
          record {
            l = a.l;
            low = a.low;
            high = subst (λ t. a.l ≤ t) (sym (in_list x.position)) a.high;
            is = id_of x.position a.l (le_trans a.high (v.short x.position)) ∙ a.is;
          }

      old : (i l : ℕ) → 1 ≤ l → is_old_in (G'.id_of i l) es ≡ true → (l ≤ h.len i) ⊎ (is_old_in (G'.id_of i l) es ≡ false) → h'.done i l ≡ true
      old i l a d (inl t) = done i l (v.old i l a t (subst (λ x. is_old_in x es ≡ true) (id_of i l t) d))
      old i l a d (inr t) = clash d t

  ---- from G, h to G', h': what node j's part of the invariant needs, its own block and list left alone
  pub record Grown (G G' : Ghost) (h h' : Ledger B) (j : ℕ) (o : Opmode) (es : List Entry) : Type 0 where
    pub base : G'.base ≡ G.base
    pub in_block : (i : ℕ) → G'.in_block j i ≡ G.in_block j i
    pub in_list : (i : ℕ) → G'.in_list j i ≡ G.in_list j i
    pub cut : (is_recons o ≡ true) ⊎ (G.is_settled j ≡ true) → (i : ℕ) → G'.cut i ≡ G.cut i
    pub cuts : (is_recons o ≡ true) ⊎ (G.is_settled j ≡ true) → (i : ℕ) → IsPos O i → Between O h (G.cut i) i → Between O h' (G'.cut i) i
    pub is_settled : G'.is_settled j ≡ G.is_settled j
    pub begun : G.begun ≡ true → G'.begun ≡ true
    pub val : (i l : ℕ) → l ≤ h.len i → h'.val i l ≡ h.val i l
    pub id_of : (i l : ℕ) → l ≤ h.len i → G'.id_of i l ≡ G.id_of i l
    pub len : (i : ℕ) → h.len i ≤ h'.len i
    pub own : j ≤ k → h'.len j ≡ h.len j
    pub done : (i l : ℕ) → h.done i l ≡ true → h'.done i l ≡ true
    pub least : is_init o ≡ false → (i l : ℕ) → Spot O j i → h'.done i l ≡ true → (h.done i l ≡ true) ⊎ (l ≤ G.in_block j i)
    pub new : (i l : ℕ) → 1 ≤ l → l ≤ h'.len i → (l ≤ h.len i) ⊎ (is_old_in (G'.id_of i l) es ≡ false)
    pub failed : h.failed ≡ true → h'.failed ≡ true

  pub node-frame : Laws O → (G G' : Ghost) (h h' : Ledger B) (j : ℕ) (b : B) (o : Opmode) (e : ℕ) (es : List Entry) → Grown G G' h h' j o es
      → NodeOk O G h j b o e es → NodeOk O G' h' j b o e es
  node-frame L G G' h h' j b o e es W N =
      record {
        live = λ p. live p (N.live p);
        unwritten = λ p q. unwritten (N.unwritten p (sym W.is_settled ∙ q));
        written = λ p. on (inl p) (N.written p);
        settled = λ p. settled (sym W.is_settled ∙ p) (N.settled (sym W.is_settled ∙ p));
        list = list-frame G G' h h' j es W.in_list W.id_of W.len W.done W.new N.list;
        init = λ p a c. W.failed (N.init p a c);
        bare = λ p i. W.in_list i ∙ N.bare (bare p) i;
      }
    where
      bare : (is_init o ≡ true) ⊎ (G'.is_settled j ≡ true) → (is_init o ≡ true) ⊎ (G.is_settled j ≡ true)
      bare (inl t) = inl t
      bare (inr t) = inr (sym W.is_settled ∙ t)

      live : is_init o ≡ false → Live O G h j b e → Live O G' h' j b e
      live alive v =
          record {
            low = v.low;
            high = v.high;
            block = v.block ∙ code-ext L j (at O h (G.in_block j)) (at O h' (G'.in_block j)) v.low (λ i p. sym (W.val i (G.in_block j i) (v.between i p).most) ∙ ap (h'.val i) (sym (W.in_block i)));
            between = λ i p. record { most = subst (λ t. t ≤ h'.len i) (sym (W.in_block i)) (between-most i p); least = λ l d. subst (λ t. l ≤ t) (sym (W.in_block i)) (between-least i p l (W.least alive i l p d)) };
            epoch = subst (λ t. t ≤ e) (sym W.base) v.epoch;
          }
        where
          between-most : (i : ℕ) → Spot O j i → G.in_block j i ≤ h'.len i
          between-most i p = let a = (v.between i p).most in let c = W.len i in omega arith

          between-least : (i : ℕ) → Spot O j i → (l : ℕ) → (h.done i l ≡ true) ⊎ (l ≤ G.in_block j i) → l ≤ G.in_block j i
          between-least i p l (inl d) = (v.between i p).least l d
          between-least i p l (inr d) = d

      on : (is_recons o ≡ true) ⊎ (G.is_settled j ≡ true) → OnCut O G h j → OnCut O G' h' j
      on r v = record { under_way = W.begun v.under_way; between = λ i p. W.cuts r i p (v.between i p); cut = λ i p. W.in_block i ∙ v.cut i p ∙ sym (W.cut r i) }

      settled : G.is_settled j ≡ true → Settled O G h j o e → Settled O G' h' j o e
      settled r v = record { norm = v.norm; on = on (inr r) v.on; later = subst (λ t. t < e) (sym W.base) v.later }

      unwritten : Unwritten O G h j e es → Unwritten O G' h' j e es
      unwritten v =
          record {
            epoch = v.epoch ∙ sym W.base;
            same = λ i p. W.in_block i ∙ v.same i p ∙ sym (W.in_list i);
            own = λ p. own p;
            newest = λ p. newest p (v.newest p);
          }
        where
          own : j ≤ k → G'.in_block j j ≡ h'.len j
          own p = W.in_block j ∙ v.own p ∙ sym (W.own p)

          newest : j ≤ k → (last_recent es ≡ Some (G.id_of j (h.len j))) ⊎ (h.done j (h.len j) ≡ true)
              → (last_recent es ≡ Some (G'.id_of j (h'.len j))) ⊎ (h'.done j (h'.len j) ≡ true)
          newest p (inl q) = inl (q ∙ ap Some (sym (W.id_of j (h.len j) (omega arith)) ∙ ap (G'.id_of j) (sym (W.own p))))
          newest p (inr q) = inr (subst (λ t. h'.done j t ≡ true) (sym (W.own p)) (W.done j (h.len j) q))

  -- the same of a hand: its client's last swap and difference are left alone, and no add of it was made
  pub record HandGrown (G G' : Ghost) (h h' : Ledger B) (op op' : ℕ → Opmode) (c : ℕ) (w : Write) : Type 0 where
    pub base : G'.base ≡ G.base
    pub val : (i l : ℕ) → l ≤ h.len i → h'.val i l ≡ h.val i l
    pub id_of : (i l : ℕ) → l ≤ h.len i → G'.id_of i l ≡ G.id_of i l
    pub len : (i : ℕ) → h.len i ≤ h'.len i
    pub done : (i l : ℕ) → h.done i l ≡ true → h'.done i l ≡ true
    pub still : (d : B) → Own O G h op c d w → (q : ℕ) → suc q ≤ h.len w.id.position → w.id ≡ G.id_of w.id.position (suc q)
        → h.done w.id.position (suc q) ≡ false → h'.done w.id.position (suc q) ≡ false
    pub last : h'.last c ≡ h.last c
    pub in_done : (j q : ℕ) → k < j → is_norm (op' j) ≡ true → G'.is_settled j ≡ false → suc q ≤ h.len w.id.position
        → w.id ≡ G.id_of w.id.position (suc q) →
        (is_norm (op j) ≡ true → G.is_settled j ≡ false → suc q ≤ G.in_block j w.id.position) → suc q ≤ G'.in_block j w.id.position
    pub not_done : (j q : ℕ) → k < j → is_norm (op' j) ≡ true → G'.is_settled j ≡ false → suc q ≤ h.len w.id.position
        → w.id ≡ G.id_of w.id.position (suc q) → w.id.client ≡ c →
        (is_norm (op j) ≡ true → G.is_settled j ≡ false → G.in_block j w.id.position ≤ q) → G'.in_block j w.id.position ≤ q

  pub hand-frame : (G G' : Ghost) (h h' : Ledger B) (op op' : ℕ → Opmode) (c : ℕ) (d : B) (w : Write) → HandGrown G G' h h' op op' c w → HandOk O G h op c d w
      → HandOk O G' h' op' c d w
  hand-frame G G' h h' op op' c d w W N = record { epoch = subst (λ t. w.epoch.0 ≤ t) (sym W.base) N.epoch; own = λ p. own (N.own (p ∙ W.base)) }
    where
      own : Own O G h op c d w → Own O G' h' op' c d w
      own v =
          record {
            q = v.q;
            high = high v.high (W.len w.id.position);
            pos = v.pos;
            is = v.is ∙ sym (W.id_of w.id.position (suc v.q) v.high);
            client = v.client;
            undone = W.still d v v.q v.high v.is v.undone;
            difference = v.difference ∙ ap₂ diff (sym (W.val w.id.position (suc v.q) v.high)) (sym (W.val w.id.position v.q (less v.high)));
            prev = prev v.prev;
            last = W.last ∙ v.last;
            in_done = λ j a b e f. W.in_done j v.q a b e v.high v.is (λ b' e'. v.in_done j a b' e' f);
            not_done = λ j a b e f. W.not_done j v.q a b e v.high v.is v.client (λ b' e'. v.not_done j a b' e' f);
          }
        where
          high : suc v.q ≤ h.len w.id.position → h.len w.id.position ≤ h'.len w.id.position → suc v.q ≤ h'.len w.id.position
          high a b = omega arith

          less : suc v.q ≤ h.len w.id.position → v.q ≤ h.len w.id.position
          less a = omega arith

          prev : (w.previous ≡ Some (G.id_of w.id.position v.q)) ⊎ (h.done w.id.position v.q ≡ true)
              → (w.previous ≡ Some (G'.id_of w.id.position v.q)) ⊎ (h'.done w.id.position v.q ≡ true)
          prev (inl e) = inl (e ∙ ap Some (sym (W.id_of w.id.position v.q (less v.high))))
          prev (inr e) = inr (W.done w.id.position v.q e)

  pub of_live : {G : Ghost} {h : Ledger B} {j : ℕ} {b : B} {e : ℕ} → Live O G h j b e → IsNode O j
  of_live v = record { low = v.low; high = v.high }

  -- a swap that is listed at a node is one of those counted there
  pub counted : {G : Ghost} {h : Ledger B} {s : Columns B} → Inv O G h s → (j i l : ℕ) → 1 ≤ l → l ≤ h.len i → is_listed (G.id_of i l) (s.entries j) ≡ true
      → Spot O j i × (l ≤ G.in_list j i)
  counted {G} {h} {s} I j i l low high e = (subst (Spot O j) position ((I.node j).list.mine (G.id_of i l) e), subst (λ t. t ≤ G.in_list j i) same within)
    where
      position : (G.id_of i l).position ≡ i
      position = I.ids.id_of-pos i l low high

      a : Among O G (G.in_list j (G.id_of i l).position) (G.id_of i l)
      a = (I.node j).list.listed (G.id_of i l) e

      within : a.l ≤ G.in_list j i
      within = subst (λ y. a.l ≤ G.in_list j y) position a.high

      same : a.l ≡ l
      same = I.ids.id_of-inj i a.l l a.low (le_trans within ((I.node j).list.short i)) low high (subst (λ y. G.id_of y a.l ≡ G.id_of i l) position a.is)

  -- a client between its pick and its finish has every node that is not INIT at L1
  pub writer-holds : (G : Ghost) (c j : ℕ) (p : Rebuild) (o : Opmode) (l : Lock) (e : ℕ) → PhaseOk O G c p j o l e → writes p ≡ true → is_init o ≡ false
      → l ≡ L1 c
  writer-holds G c j NoRebuild o l e v w i = clash w refl
  writer-holds G c j (Locking old) o l e v w i = clash w refl
  writer-holds G c j (Picking t) o l e v w i = clash w refl
  writer-holds G c j (Writing x u y) o l e v w i = v.all_held i
  writer-holds G c j (Settling x y) o l e v w i = v.all_held i
  writer-holds G c j (Unlocking x) o l e v w i = clash w refl

  -- so while some node that is not INIT is at UNL or L0 nobody is
  pub no-writer : (G : Ghost) (h : Ledger B) (s : Columns B) → Inv O G h s → (j : ℕ) → is_init (s.op j) ≡ false → (is_unl (s.lock j) || is_l0 (s.lock j)) ≡ true
      → (c : ℕ) → writes (s.phase c) ≡ false
  no-writer G h s I j i l c =
      is_false (writes (s.phase c)) (λ w.
      clash (subst (λ t. (is_unl t || is_l0 t) ≡ true) (writer-holds G c j (s.phase c) (s.op j) (s.lock j) (s.epoch j) (I.phase c j (of_live ((I.node j).live i))) w i) l) refl)

  -- a client that does not write: its part turns on `begun` alone
  pub phase-quiet : (G G' : Ghost) → G'.begun ≡ G.begun → (c j : ℕ) (p : Rebuild) (o : Opmode) (l : Lock) (e : ℕ) → writes p ≡ false → PhaseOk O G c p j o l e
      → PhaseOk O G' c p j o l e
  phase-quiet G G' q c j NoRebuild o l e w v = v
  phase-quiet G G' q c j (Locking old) o l e w v = record { before = v.before; tight = v.tight; was = λ a b d. v.was a (sym q ∙ b) d }
  phase-quiet G G' q c j (Picking t) o l e w v = v
  phase-quiet G G' q c j (Writing x u y) o l e w v = clash refl w
  phase-quiet G G' q c j (Settling x y) o l e w v = clash refl w
  phase-quiet G G' q c j (Unlocking x) o l e w v = record { within = v.within; ahead = v.ahead; norm = v.norm; over = λ a. q ∙ v.over a }

  pub rebuild-quiet : (G : Ghost) (h : Ledger B) (sp : ℕ → B) (c : ℕ) (p : Rebuild) → writes p ≡ false → RebuildOk O G h sp c p
  rebuild-quiet G h sp c NoRebuild w = tt
  rebuild-quiet G h sp c (Locking old) w = tt
  rebuild-quiet G h sp c (Picking t) w = tt
  rebuild-quiet G h sp c (Writing x u y) w = clash refl w
  rebuild-quiet G h sp c (Settling x y) w = clash refl w
  rebuild-quiet G h sp c (Unlocking x) w = tt
