-- The phases of the clients: what a client's own phase gives it, and what the other clients' need when it goes on. Assumes nothing.
use mathlib.Core.Path.{◌≡◌, refl, sym, ap, ◌∙◌}
use mathlib.Core.Logic.{◌≢◌}
use mathlib.Core.Bool.{true, false}
use Prim.Native.Nat.{ℕ}
use borrow.Author.Tests.{eqb-true, eq-eqb}
use Rattle.records.specs.declared.Opmode.{Opmode}
use Rattle.records.specs.Node.{is_init, is_norm}
use Rattle.records.specs.Client.{Rebuild, NoRebuild, Locking, Picking, Writing, Settling, Unlocking}
use Rattle.basics.proofs.Updates.{upd, upd-ind}
use Rattle.basics.proofs.Tests.{clash, is_false}
use Rattle.machine.proofs.Columns.{Ops, Lock, Unl, Exp, L0, L1, is_locked, held_by, Columns}
use Rattle.machine.proofs.Ledger.{Ledger}
use Rattle.machine.proofs.Invariant.{Ghost, IsNode, writes, PhaseOk, RebuildOk, Inv}
use Rattle.machine.proofs.Frame.{of_live, writer-holds, rebuild-quiet}

pub held-l1 : (c : ℕ) → held_by c (L1 c) ≡ true
held-l1 c = eq-eqb c c refl

pub one-holder : (c d : ℕ) (l : Lock) → held_by c l ≡ true → held_by d l ≡ true → c ≡ d
one-holder c d Unl p q = clash p refl
one-holder c d Exp p q = clash p refl
one-holder c d (L0 x) p q = eqb-true c x p ∙ sym (eqb-true d x q)
one-holder c d (L1 x) p q = eqb-true c x p ∙ sym (eqb-true d x q)

-- what c holds no other does, and what is not locked nobody does
pub not-other : (c d : ℕ) (l : Lock) → c ≢ d → held_by c l ≡ true → held_by d l ≡ false
not-other c d l ne p = is_false (held_by d l) (λ q. absurd (ne (one-holder c d l p q)))

pub unheld : (d : ℕ) (l : Lock) → is_locked l ≡ false → held_by d l ≡ false
unheld d Unl f = refl
unheld d Exp f = refl
unheld d (L0 c) f = clash refl f
unheld d (L1 c) f = clash refl f

module _ (O : Ops) where
  open O use {B}

  -- a lock that changes, and that d holds neither before nor after
  pub phase-unheld : (G : Ghost) (d j : ℕ) (p : Rebuild) (o : Opmode) (l l' : Lock) (e : ℕ) → held_by d l ≡ false → held_by d l' ≡ false →
      PhaseOk O G d p j o l e → PhaseOk O G d p j o l' e
  phase-unheld G d j NoRebuild o l l' e f f' v = f'
  phase-unheld G d j (Locking old) o l l' e f f' v = record { before = λ t. clash t f'; tight = λ t. clash t f'; was = λ t. clash t f' }
  phase-unheld G d j (Picking t) o l l' e f f' v = λ t. clash t f'
  phase-unheld G d j (Writing x w y) o l l' e f f' v =
      record { all_held = λ i. clash (rw (v.all_held i) (held-l1 d)) f; tight = λ t. clash t f'; behind = λ t. clash t f'; member = v.member }
  phase-unheld G d j (Settling x y) o l l' e f f' v =
      record { all_held = λ i. clash (rw (v.all_held i) (held-l1 d)) f; behind = λ t. clash t f'; behind_epoch = λ t. clash t f'; ahead = λ t. clash t f' }
  phase-unheld G d j (Unlocking x) o l l' e f f' v = record { within = v.within; ahead = λ t. clash t f'; norm = λ t. clash t f'; over = λ t. clash t f' }

  -- a node that changes, and that d, who does not write, does not hold where it is live
  pub phase-foreign : (G G' : Ghost) (d j : ℕ) (p : Rebuild) (o o' : Opmode) (l : Lock) (e e' : ℕ) → writes p ≡ false →
      (is_norm o ≡ true → is_init o' ≡ false) → (is_init o' ≡ false → held_by d l ≡ false) → PhaseOk O G d p j o l e → PhaseOk O G' d p j o' l e'
  phase-foreign G G' d j NoRebuild o o' l e e' q live f v = v
  phase-foreign G G' d j (Locking old) o o' l e e' q live f v = record { before = v.before; tight = v.tight; was = λ t a i. clash t (f i) }
  phase-foreign G G' d j (Picking t) o o' l e e' q live f v = v
  phase-foreign G G' d j (Writing x w y) o o' l e e' q live f v = clash refl q
  phase-foreign G G' d j (Settling x y) o o' l e e' q live f v = clash refl q
  phase-foreign G G' d j (Unlocking x) o o' l e e' q live f v =
      record { within = v.within; ahead = v.ahead; norm = λ t. clash t (f (live (v.norm t))); over = λ t. clash t (f (live (v.norm t))) }

  -- c goes on to phase p while nobody else writes
  module _ (phase : ℕ → Rebuild) (c : ℕ) (p : Rebuild) (quiet : (d : ℕ) → c ≢ d → writes (phase d) ≡ false) where
    pub rebuild-only : (G : Ghost) (h : Ledger B) (sp : ℕ → B) → RebuildOk O G h sp c p → (d : ℕ) → RebuildOk O G h sp d (upd phase c p d)
    rebuild-only G h sp r = upd-ind (λ d q. RebuildOk O G h sp d q) phase c p r (λ d ne. rebuild-quiet O G h sp d (phase d) (quiet d ne))

    pub one_writer : (d e : ℕ) → writes (upd phase c p d) ≡ true → writes (upd phase c p e) ≡ true → d ≡ e
    one_writer d e a b = sym (is_c d a) ∙ is_c e b
      where
        is_c : (d : ℕ) → writes (upd phase c p d) ≡ true → c ≡ d
        is_c = upd-ind (λ d q. writes q ≡ true → c ≡ d) phase c p (λ t. refl) (λ d ne t. clash t (quiet d ne))

  -- client c in phase p
  module _ {G : Ghost} {h : Ledger B} {s : Columns B} (I : Inv O G h s) (c : ℕ) {p : Rebuild} (is : s.phase c ≡ p) where
    pub phase-is : (j : ℕ) → IsNode O j → PhaseOk O G c p j (s.op j) (s.lock j) (s.epoch j)
    phase-is j b = rw is at (I.phase c j b)

    pub rebuild-is : RebuildOk O G h s.spare c p
    rebuild-is = rw is at (I.rebuild c)

    -- which is between its pick and its finish
    module _ (w : writes p ≡ true) where
      pub others-quiet : (d : ℕ) → c ≢ d → writes (s.phase d) ≡ false
      others-quiet d ne = is_false (writes (s.phase d)) (λ t. absurd (ne (I.one c d (ap writes is ∙ w) t)))

      pub writer-lock : (j : ℕ) → is_init (s.op j) ≡ false → s.lock j ≡ L1 c
      writer-lock j i = writer-holds O G c j p (s.op j) (s.lock j) (s.epoch j) (phase-is j (of_live O ((I.node j).live i))) w i

      -- the phases after a change of nodes, where c holds at L1 what is then live
      pub phase-after : (G' : Ghost) (op' : ℕ → Opmode) (epoch' : ℕ → ℕ) (p' : Rebuild) → ((j : ℕ) → is_norm (s.op j) ≡ true → is_init (op' j) ≡ false) →
          ((j : ℕ) → is_init (op' j) ≡ false → s.lock j ≡ L1 c) → ((j : ℕ) → IsNode O j → PhaseOk O G' c p' j (op' j) (s.lock j) (epoch' j)) →
          (d j : ℕ) → IsNode O j → PhaseOk O G' d (upd s.phase c p' d) j (op' j) (s.lock j) (epoch' j)
      phase-after G' op' epoch' p' live l1 mine =
          upd-ind (λ d q. (j : ℕ) → IsNode O j → PhaseOk O G' d q j (op' j) (s.lock j) (epoch' j)) s.phase c p' mine
          (λ d ne j b. phase-foreign G G' d j (s.phase d) (s.op j) (op' j) (s.lock j) (s.epoch j) (epoch' j) (others-quiet d ne) (live j)
          (λ i. not-other c d (s.lock j) ne (rw (l1 j i) (held-l1 c))) (I.phase d j b))
