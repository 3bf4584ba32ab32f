-- The calls that change locks and phases alone, by what they do to the columns, keep the invariant: lock, weaken, tighten, unlock, quit.
-- Assumes nothing.
use mathlib.Core.Path.{◌≡◌, refl, sym, ap, ◌∙◌}
use mathlib.Core.Logic.{◌≢◌, ◌⊎◌, inl, inr}
use mathlib.Core.Bool.{Bool, true, false, cond, ◌&&◌}
use mathlib.Core.List.{List, [], ◌∷◌, ◌++◌}
use Prim.Native.Nat.{ℕ, zero, suc, ◌≤◌, ◌<◌}
use native.Mathlib.Omega.{arith}
use lib.Dec.{leb, ltb}
use lib.ListN.{length, get_or, length-append}
use borrow.Author.Tests.{leb-true, leb-false, ltb-true, eq-eqb, le-ltb, le-leb}
use Rattle.records.specs.declared.Lmode.{Lmode}
use Rattle.records.specs.Node.{is_init, is_recons}
use Rattle.records.specs.Node as Node
use Rattle.records.specs.Client.{Rebuild, NoRebuild, Locking, Picking, Unlocking}
use Rattle.basics.proofs.Updates.{upd, upd-ind}
use Rattle.basics.proofs.Tests.{clash, is_false, and_both, cond_ind}
use Rattle.machine.proofs.Columns.{Ops, Lock, Unl, Exp, L0, L1, is_unl, is_exp, is_l0, is_locked, held_by, Columns, set_locks, set_phases}
use Rattle.machine.proofs.Ledger.{Ledger}
use Rattle.machine.proofs.Invariant.{Ghost, IsNode, was_exp, writes, unlocks, LockingOk, UnlockingOk, PhaseOk, RebuildOk, Inv, Good}
use Rattle.machine.proofs.Frame.{of_live, rebuild-quiet}
use Rattle.machine.proofs.Phases.{held-l1, not-other, unheld, phase-unheld, phase-is}

---- what the calls do to a lock
-- it becomes EXP if c holds it
abbrev pub expired : ℕ → Lock → Lock
expired c l = cond (held_by c l) Exp l

-- it becomes what it was before c's lock of node j
abbrev pub given_back : ℕ → List Lmode → ℕ → Lock → Lock
given_back c old j l = cond (leb j (length old) && held_by c l) (cond (was_exp old j) Exp Unl) l

---- the lmodes remembered, and one more
snoc-last : (old : List Lmode) (l : Lmode) → get_or (old ++ (l ∷ [])) (length old) Lmode.Unl ≡ l
snoc-last [] l = refl
snoc-last (a ∷ old) l = snoc-last old l

snoc-exp : (old : List Lmode) (l : Lmode) (j : ℕ) → was_exp old j ≡ true → was_exp (old ++ (l ∷ [])) j ≡ true
unfolding was_exp
snoc-exp old l zero e = e
snoc-exp [] l (suc j) e = clash e refl
snoc-exp (a ∷ old) l (suc zero) e = e
snoc-exp (a ∷ old) l (suc (suc j)) e = snoc-exp old l (suc j) e

-- a client with these lmodes remembered locks next: it has begun to lock, or has no rebuild and none remembered
abbrev pub LocksNext : Rebuild → List Lmode → Type 0
LocksNext p old = (p ≡ Locking old) ⊎ ((p ≡ NoRebuild) × (old ≡ []))

module _ {B : Type 0} where
  -- other locks, and c's rebuild in another phase
  abbrev pub relocked : ℕ → (ℕ → Lock) → Rebuild → Columns B → Columns B
  relocked c lock' p s = set_phases (upd s.phase c p) (set_locks lock' s)

  -- answer 10, and quit
  abbrev pub lost : ℕ → Columns B → Columns B
  lost c s = relocked c (λ j. expired c (s.lock j)) NoRebuild s

  -- answer 9
  abbrev pub gave_back : ℕ → List Lmode → Columns B → Columns B
  gave_back c old s = relocked c (λ j. given_back c old j (s.lock j)) NoRebuild s

module _ (O : Ops) where
  open O use {B, k, n}

  -- the next node is locked; l is its lmode before
  abbrev pub locked : ℕ → List Lmode → Lmode → Columns B → Columns B
  locked c old l s = relocked c (upd s.lock (suc (length old)) (L1 c)) (cond (leb n (suc (length old))) (Picking 0) (Locking (old ++ (l ∷ [])))) s

  abbrev pub weakened : ℕ → Columns B → Columns B
  weakened c s = relocked c (λ j. cond (ltb k j && leb j n) (L0 c) (s.lock j)) (Picking (suc k)) s

  abbrev pub tightened : ℕ → ℕ → Columns B → Columns B
  tightened c x s = relocked c (upd s.lock x (L1 c)) (cond (leb n x) (Picking 0) (Picking (suc x))) s

  abbrev pub unlocked : ℕ → ℕ → Columns B → Columns B
  unlocked c x s = relocked c (upd s.lock x Unl) (cond (leb n x) NoRebuild (Unlocking (suc x))) s

  -- node j's lock becomes l: nobody but c held it and nobody but c holds it, and the node may have it
  pub record Relocked (G : Ghost) (s : Columns B) (c j : ℕ) (l : Lock) : Type 0 where
    pub before : (d : ℕ) → c ≢ d → held_by d (s.lock j) ≡ false
    pub after : (d : ℕ) → c ≢ d → held_by d l ≡ false
    pub unl : G.begun ≡ true → is_init (s.op j) ≡ false → is_unl l ≡ false
    pub weak : (r : ℕ) → is_recons (s.op r) ≡ true → is_l0 l ≡ false

  module _ (h : Ledger B) (s : Columns B) (g : Good O h s) (c : ℕ) where
    abbrev G : Ghost
    G = g.ghost

    abbrev I : Inv O G h s
    I = g.inv

    -- it stays, or changes so
    abbrev May : ℕ → Lock → Type 0
    May j l = (l ≡ s.lock j) ⊎ Relocked G s c j l

    relock-on : (lock' : ℕ → Lock) (p : Rebuild) → ((j : ℕ) → May j (lock' j)) →
        ((j : ℕ) → IsNode O j → PhaseOk O G c p j (s.op j) (lock' j) (s.epoch j)) → writes p ≡ false →
        ((j : ℕ) → IsNode O j → unlocks p ≡ true → lock' j ≡ L1 c → s.spare j ≡ s.block j) → Good O h (relocked c lock' p s)
    relock-on lock' p may mine quiet own =
        record {
          ghost = G;
          inv = record {
            ids = I.ids;
            node = I.node;
            pair = I.pair;
            hand = I.hand;
            finished = I.finished;
            unl = λ e j i. unl e j i (may j);
            weak = λ r j e i. weak r j e i (may j);
            phase = upd-ind (λ d q. (j : ℕ) → IsNode O j → PhaseOk O G d q j (s.op j) (lock' j) (s.epoch j)) s.phase c p mine
                (λ d ne j b. others d ne j b (may j));
            rebuild = upd-ind (RebuildOk O G h s.spare) s.phase c p (rebuild-quiet O G h s.spare c p quiet) (λ d ne. I.rebuild d);
            one = λ d e a b. I.one d e (was d a) (was e b);
            shown = λ d j b. upd-ind (λ d q. unlocks q ≡ true → lock' j ≡ L1 d → s.spare j ≡ s.block j) s.phase c p (own j b)
                (λ d ne t l. shown d ne j b t l (may j)) d;
          };
        }
      where
        unl : G.begun ≡ true → (j : ℕ) → is_init (s.op j) ≡ false → May j (lock' j) → is_unl (lock' j) ≡ false
        unl e j i (inl q) = rw q (I.unl e j i)
        unl e j i (inr R) = R.unl e i

        weak : (r j : ℕ) → is_recons (s.op r) ≡ true → is_init (s.op j) ≡ false → May j (lock' j) → is_l0 (lock' j) ≡ false
        weak r j e i (inl q) = rw q (I.weak r j e i)
        weak r j e i (inr R) = R.weak r e

        others : (d : ℕ) → c ≢ d → (j : ℕ) → IsNode O j → May j (lock' j) → PhaseOk O G d (s.phase d) j (s.op j) (lock' j) (s.epoch j)
        others d ne j b (inl q) = rw q (I.phase d j b)
        others d ne j b (inr R) =
            phase-unheld O G d j (s.phase d) (s.op j) (s.lock j) (lock' j) (s.epoch j) (R.before d ne) (R.after d ne) (I.phase d j b)

        shown : (d : ℕ) → c ≢ d → (j : ℕ) → IsNode O j → unlocks (s.phase d) ≡ true → lock' j ≡ L1 d → May j (lock' j) → s.spare j ≡ s.block j
        shown d ne j b t l (inl q) = I.shown d j b t (sym q ∙ l)
        shown d ne j b t l (inr R) = clash (rw l (held-l1 d)) (R.after d ne)

        was : (d : ℕ) → writes (upd s.phase c p d) ≡ true → writes (s.phase d) ≡ true
        was = upd-ind (λ d q. writes q ≡ true → writes (s.phase d) ≡ true) s.phase c p (λ w. clash w quiet) (λ d ne w. w)

    -- to a phase that is not Unlocking
    pub relock : (lock' : ℕ → Lock) (p : Rebuild) → ((j : ℕ) → May j (lock' j)) →
        ((j : ℕ) → IsNode O j → PhaseOk O G c p j (s.op j) (lock' j) (s.epoch j)) → writes p ≡ false → unlocks p ≡ false →
        Good O h (relocked c lock' p s)
    relock lock' p may mine quiet none = relock-on lock' p may mine quiet (λ j b t l. clash t none)

    ---- changes that may be
    -- of one lock; of those that pass a test
    one-lock : (x : ℕ) (l : Lock) → Relocked G s c x l → (j : ℕ) → May j (upd s.lock x l j)
    one-lock x l R = upd-ind May s.lock x l (inr R) (λ j ne. inl refl)

    if-locked : (test : Bool) (j : ℕ) (l : Lock) → (test ≡ true → Relocked G s c j l) → May j (cond test l (s.lock j))
    if-locked test j l R = cond_ind (May j) test l (s.lock j) (λ e. inr (R e)) (λ e. inl refl)

    -- nobody's lock, or c's, becomes c's at L1
    taken : (j : ℕ) → ((d : ℕ) → c ≢ d → held_by d (s.lock j) ≡ false) → Relocked G s c j (L1 c)
    taken j f = record { before = f; after = λ d ne. not-other c d (L1 c) ne (held-l1 c); unl = λ e i. refl; weak = λ r e. refl }

    -- c's lock becomes one that nobody holds; UNL only if no rebuild is under way
    released : (j : ℕ) (l : Lock) → held_by c (s.lock j) ≡ true → is_locked l ≡ false → (G.begun ≡ true → is_init (s.op j) ≡ false → is_unl l ≡ false) →
        Relocked G s c j l
    released j l held free unl =
        record { before = λ d ne. not-other c d (s.lock j) ne held; after = λ d ne. unheld d l free; unl = unl; weak = λ r e. not-l0 l free }
      where
        not-l0 : (l : Lock) → is_locked l ≡ false → is_l0 l ≡ false
        not-l0 Unl f = refl
        not-l0 Exp f = refl
        not-l0 (L0 x) f = clash refl f
        not-l0 (L1 x) f = refl

    ---- Quit, and answer 10
    pub quit-good : Good O h (lost c s)
    quit-good =
        relock (λ j. expired c (s.lock j)) NoRebuild (λ j. if-locked (held_by c (s.lock j)) j Exp (λ held. released j Exp held refl (λ e i. refl)))
        (λ j b. cond_ind (λ l. held_by c l ≡ false) (held_by c (s.lock j)) Exp (s.lock j) (λ held. refl) (λ f. f)) refl refl

    ---- Lock
    module _ (old : List Lmode) (next : LocksNext (s.phase c) old) where
      locking : (j : ℕ) → IsNode O j → LockingOk O G c (suc (length old)) (was_exp old) j (s.op j) (s.lock j)
      locking j b = go next
        where
          go : LocksNext (s.phase c) old → LockingOk O G c (suc (length old)) (was_exp old) j (s.op j) (s.lock j)
          go (inl p) = phase-is O I c p j b
          go (inr p) = let f = phase-is O I c p.0 j b in record { before = λ t. clash t f; tight = λ t. clash t f; was = λ t. clash t f }

      pub give-back-good : Good O h (gave_back c old s)
      give-back-good =
          relock (λ j. given_back c old j (s.lock j)) NoRebuild
          (λ j. if-locked (test j) j (was j) (λ e. back j (and_both (leb j (length old)) (held_by c (s.lock j)) e).1)) mine refl refl
        where
          test : ℕ → Bool
          test j = leb j (length old) && held_by c (s.lock j)

          was : ℕ → Lock
          was j = cond (was_exp old j) Exp Unl

          was-ind : (P : Lock → Type 0) (j : ℕ) → P Exp → P Unl → P (was j)
          was-ind P j e u = cond_ind P (was_exp old j) Exp Unl (λ t. e) (λ t. u)

          back : (j : ℕ) → held_by c (s.lock j) ≡ true → Relocked G s c j (was j)
          back j held =
              released j (was j) held (was-ind (λ l. is_locked l ≡ false) j refl refl) (λ t i. rw ((locking j (of_live O ((I.node j).live i))).was held t i))

          mine : (j : ℕ) → IsNode O j → held_by c (given_back c old j (s.lock j)) ≡ false
          mine j b =
              cond_ind (λ l. held_by c l ≡ false) (test j) (was j) (s.lock j) (λ e. was-ind (λ l. held_by c l ≡ false) j refl refl)
              (λ f. is_false (held_by c (s.lock j)) (λ q. let a = (locking j b).before q in clash (rw (le-leb j (length old) (omega arith), q)) f))

      module _ (l : Lmode) (is-l : Node.is_exp l ≡ is_exp (s.lock (suc (length old)))) (free : is_locked (s.lock (suc (length old))) ≡ false) where
        abbrev x : ℕ
        x = suc (length old)

        abbrev old' : List Lmode
        old' = old ++ (l ∷ [])

        abbrev lock' : ℕ → Lock
        lock' = upd s.lock x (L1 c)

        -- a lock that is free and not UNL was EXP
        was-exp : (l : Lock) → is_locked l ≡ false → is_unl l ≡ false → is_exp l ≡ true
        was-exp Unl p q = clash refl q
        was-exp Exp p q = refl
        was-exp (L0 d) p q = clash refl p
        was-exp (L1 d) p q = clash refl p

        locking' : (j : ℕ) → IsNode O j → LockingOk O G c (suc (length old')) (was_exp old') j (s.op j) (lock' j)
        unfolding was_exp
        locking' =
            let longer = length-append old (l ∷ []) in
            upd-ind (λ j t. IsNode O j → LockingOk O G c (suc (length old')) (was_exp old') j (s.op j) t) s.lock x (L1 c)
            (λ b. record {
              before = λ q. omega arith;
              tight = λ q. refl;
              was = λ q e i. ap Node.is_exp (snoc-last old l) ∙ is-l ∙ was-exp (s.lock x) free (I.unl e x i);
            })
            (λ j ne b. let v = locking j b in
            record { before = λ q. let a = v.before q in omega arith; tight = v.tight; was = λ q e i. snoc-exp old l j (v.was q e i) })

        pub lock-good : Good O h (locked c old l s)
        lock-good =
            let may = one-lock x (L1 c) (taken x (λ d ne. unheld d (s.lock x) free)) in
            cond_ind (λ p. Good O h (relocked c lock' p s)) (leb n x) (Picking 0) (Locking old')
            (λ e. relock lock' (Picking 0) may (λ j b q t. (locking' j b).tight q) refl refl)
            (λ e. relock lock' (Locking old') may locking' refl refl)

    ---- Weaken, Tighten, Unlock
    pub weaken-good : s.phase c ≡ Picking 0 → ((j : ℕ) → IsNode O j → held_by c (s.lock j) ≡ true) → ((j : ℕ) → is_recons (s.op j) ≡ false) →
        Good O h (weakened c s)
    weaken-good p held no-recons =
        relock weak-lock (Picking (suc k)) (λ j. if-locked (ltb k j && leb j n) j (L0 c) (λ e. redundant j (and_both (ltb k j) (leb j n) e)))
        (λ j b q f. mine j b f) refl refl
      where
        weak-lock : ℕ → Lock
        weak-lock j = cond (ltb k j && leb j n) (L0 c) (s.lock j)

        redundant : (j : ℕ) → (ltb k j ≡ true) × (leb j n ≡ true) → Relocked G s c j (L0 c)
        redundant j e =
            record {
              before = λ d ne. not-other c d (s.lock j) ne (held j (record { low = let a = ltb-true k j e.0 in omega arith; high = leb-true j n e.1 }));
              after = λ d ne. not-other c d (L0 c) ne (eq-eqb c c refl);
              unl = λ t i. refl;
              weak = λ r t. clash t (no-recons r);
            }

        mine : (j : ℕ) → IsNode O j → (suc k ≡ 0) ⊎ (j < suc k) → weak-lock j ≡ L1 c
        mine j b (inl f) = absurd (omega arith)
        mine j b (inr f) = rw (le-ltb k j (omega arith)) (phase-is O I c p j b (held j b) (inl refl))

    pub tighten-good : (t : ℕ) → s.phase c ≡ Picking (suc t) → held_by c (s.lock (suc t)) ≡ true → Good O h (tightened c (suc t) s)
    tighten-good t p held =
        let may = one-lock (suc t) (L1 c) (taken (suc t) (λ d ne. not-other c d (s.lock (suc t)) ne held)) in
        cond_ind (λ q. Good O h (relocked c lock' q s)) (leb n (suc t)) (Picking 0) (Picking (suc (suc t)))
        (λ e. relock lock' (Picking 0) may (λ j b q f. tight j b (omega (arith, leb-true n (suc t) e, b.high)) q) refl refl)
        (λ e. relock lock' (Picking (suc (suc t))) may (λ j b q f. tight j b (less j f) q) refl refl)
      where
        lock' : ℕ → Lock
        lock' = upd s.lock (suc t) (L1 c)

        tight : (j : ℕ) → IsNode O j → j < suc (suc t) → held_by c (lock' j) ≡ true → lock' j ≡ L1 c
        tight =
            upd-ind (λ j l. IsNode O j → j < suc (suc t) → held_by c l ≡ true → l ≡ L1 c) s.lock (suc t) (L1 c) (λ b a q. refl)
            (λ j ne b a q. phase-is O I c p j b q (inr (omega arith)))

        less : (j : ℕ) → (suc (suc t) ≡ 0) ⊎ (j < suc (suc t)) → j < suc (suc t)
        less j (inl f) = omega arith
        less j (inr a) = a

    pub unlock-good : (x : ℕ) → s.phase c ≡ Unlocking x → IsNode O x → held_by c (s.lock x) ≡ true → Good O h (unlocked c x s)
    unlock-good x p xn held =
        let may = one-lock x Unl (released x Unl held refl (λ t i. clash t ((unlocking x xn).over held))) in
        cond_ind (λ q. Good O h (relocked c lock' q s)) (leb n x) NoRebuild (Unlocking (suc x))
        (λ e. relock lock' NoRebuild may (last (leb-true n x e)) refl refl)
        (λ e. relock-on lock' (Unlocking (suc x)) may (more (leb-false n x e)) refl shown)
      where
        lock' : ℕ → Lock
        lock' = upd s.lock x Unl

        unlocking : (j : ℕ) → IsNode O j → UnlockingOk O G c x j (s.op j) (s.lock j)
        unlocking = phase-is O I c p

        shown : (j : ℕ) → IsNode O j → unlocks (Unlocking (suc x)) ≡ true → lock' j ≡ L1 c → s.spare j ≡ s.block j
        shown j b t =
            upd-ind (λ j l. IsNode O j → l ≡ L1 c → s.spare j ≡ s.block j) s.lock x Unl (λ b l. clash refl (ap is_unl l))
            (λ j ne b l. I.shown c j b (ap unlocks p) l) j b

        last : n ≤ x → (j : ℕ) → IsNode O j → held_by c (lock' j) ≡ false
        last a =
            upd-ind (λ j l. IsNode O j → held_by c l ≡ false) s.lock x Unl (λ b. refl)
            (λ j ne b. is_false (held_by c (s.lock j)) (λ q. let d = (unlocking j b).ahead q in absurd (ne (omega arith))))

        more : x < n → (j : ℕ) → IsNode O j → UnlockingOk O G c (suc x) j (s.op j) (lock' j)
        more a =
            let within : IsNode O (suc x) = record { low = omega arith; high = a } in
            upd-ind (λ j l. IsNode O j → UnlockingOk O G c (suc x) j (s.op j) l) s.lock x Unl
            (λ b. record { within = within; ahead = λ q. clash q refl; norm = λ q. clash q refl; over = λ q. clash q refl })
            (λ j ne b. let v = unlocking j b in record { within = within; ahead = λ q. let d = v.ahead q in omega arith; norm = v.norm; over = v.over })
