-- The failure of a node keeps the invariant. Assumes nothing.
use Rattle.std.specs.Prelude.{Some}
use mathlib.Core.Path.{◌≡◌, refl, sym, ap, ◌∙◌}
use mathlib.Core.Logic.{◌≢◌}
use mathlib.Core.Bool.{true, false}
use mathlib.Core.List.{[]}
use Prim.Native.Nat.{ℕ}
use Rattle.code.specs.Decode.{has, no_nodes}
use Rattle.records.specs.declared.Opmode.{Opmode}
use Rattle.records.specs.declared.Opmode.TheVariants.{Init}
use Rattle.records.specs.Node.{is_init, is_norm, is_recons}
use Rattle.records.specs.Client.{Write, Rebuild, NoRebuild, Locking, Picking, Writing, Settling, Unlocking}
use Rattle.basics.proofs.Updates.{upd, upd_same, upd_other, upd-ind}
use Rattle.basics.proofs.Tests.{each-place, clash}
use Rattle.machine.proofs.EntryLaws.{listed_nil}
use Rattle.machine.proofs.Columns.{Ops, Lock, Unl, L1, is_unl, Columns, set_blocks, set_ops, set_locks, set_epochs, set_rsets, set_entries}
use Rattle.machine.proofs.Ledger.{Ledger, note_fail}
use Rattle.machine.proofs.Invariant.{Ghost, Laws, IsNode, NodeOk, PairOk, HandOk, PhaseOk, RebuildOk, Inv, Good}
use Rattle.machine.proofs.Frame.{recons-live, norm-live}
use Rattle.machine.proofs.Sets.{no-nodes}
use Rattle.machine.proofs.Progress.{between_step, empty-list, ids_step, finished-step, node-step, hand-step}

module _ (O : Ops) where
  open O use {B}

  abbrev pub failed : Columns B → ℕ → B → Columns B
  failed s x v =
      set_blocks (upd s.block x v)
      (set_ops (upd s.op x Init)
      (set_locks (upd s.lock x Unl) (set_epochs (upd s.epoch x 0) (set_rsets (upd s.rset x no_nodes) (set_entries (upd s.entries x []) s)))))

  module _ (L : Laws O) {G : Ghost} {h : Ledger B} {s : Columns B} (I : Inv O G h s) (x : ℕ) (v : B) where
    abbrev h' : Ledger B
    h' = note_fail h

    abbrev s' : Columns B
    s' = failed s x v

    -- the node has an empty list and is not settled
    abbrev G' : Ghost
    G' =
        record {
          id_of = G.id_of;
          base = G.base;
          in_block = G.in_block;
          in_list = upd G.in_list x (λ i. 0);
          cut = G.cut;
          is_settled = upd G.is_settled x false;
          begun = G.begun;
        }

    ---- the nodes
    nothing-listed : (i : ℕ) → G'.in_list x i ≡ 0
    nothing-listed i = rw (upd_same G.in_list x (λ i. 0))

    itself : NodeOk O G' h' x v Init 0 []
    itself =
        record {
          live = λ t. clash refl t;
          unwritten = λ t. clash t refl;
          written = λ t. clash t refl;
          settled = λ t. clash t (upd_same G.is_settled x false);
          list = empty-list O G' h' x [] nothing-listed (λ y t. listed_nil y t);
          init = λ t a b. refl;
          bare = λ t. nothing-listed;
        }

    node : (j : ℕ) → NodeOk O G' h' j (s'.block j) (s'.op j) (s'.epoch j) (s'.entries j)
    node =
        each-place (λ j. NodeOk O G' h' j (s'.block j) (s'.op j) (s'.epoch j) (s'.entries j)) x
        (rw (upd_same s.block x v, upd_same s.op x Init, upd_same s.epoch x 0, upd_same s.entries x []) itself)
        (λ j d. rw (upd_other s.block x v j d, upd_other s.op x Init j d, upd_other s.epoch x 0 j d, upd_other s.entries x [] j d)
        (node-step O G' h' L (λ t. refl)
        (record {
          in_block = λ i. refl;
          in_list = λ i. rw (upd_other G.in_list x (λ i. 0) j d);
          is_settled = upd_other G.is_settled x false j d;
          cut = λ r i. refl;
          begun = λ t. t;
        }) (I.node j)))

    ---- a node that is live is not x, and as it was
    not-x : (j : ℕ) → is_init (s'.op j) ≡ false → x ≢ j
    not-x j i e = clash (rw (← e, upd_same s.op x Init)) i

    op-was : (j : ℕ) → is_init (s'.op j) ≡ false → s'.op j ≡ s.op j
    op-was j i = upd_other s.op x Init j (not-x j i)

    lock-was : (j : ℕ) → is_init (s'.op j) ≡ false → s'.lock j ≡ s.lock j
    lock-was j i = upd_other s.lock x Unl j (not-x j i)

    live-was : (j : ℕ) → is_init (s'.op j) ≡ false → is_init (s.op j) ≡ false
    live-was j i = rw (op-was j i) at i

    norm-was : (j : ℕ) → is_norm (s'.op j) ≡ true → is_norm (s.op j) ≡ true
    norm-was j t = rw (op-was j (norm-live (s'.op j) t)) at t

    settled_same : (j : ℕ) → is_norm (s'.op j) ≡ true → G'.is_settled j ≡ G.is_settled j
    settled_same j t = upd_other G.is_settled x false j (not-x j (norm-live (s'.op j) t))

    settled-was : (j : ℕ) → G'.is_settled j ≡ true → G.is_settled j ≡ true
    settled-was = upd-ind (λ j t. t ≡ true → G.is_settled j ≡ true) G.is_settled x false (λ t. clash t refl) (λ j d t. t)

    pair : (j l : ℕ) → PairOk O G' s'.op s'.rset j l
    pair j l =
        record {
          together = λ a b. settled_same l b ∙ (I.pair j l).together (settled-was j a) (norm-was l b);
          only = only j;
          member = λ t i. (I.pair j l).member (rset-was j t) (live-was l i);
        }
      where
        rset-was : (j : ℕ) → has (s'.rset j) l ≡ true → has (s.rset j) l ≡ true
        rset-was = upd-ind (λ j t. has t l ≡ true → has (s.rset j) l ≡ true) s.rset x no_nodes (λ t. clash t (no-nodes l)) (λ j d t. t)

        only : (j : ℕ) → has (s'.rset j) l ≡ true → is_recons (s'.op j) ≡ true
        only =
            each-place (λ j. has (s'.rset j) l ≡ true → is_recons (s'.op j) ≡ true) x (λ t. clash (rw (upd_same s.rset x no_nodes) at t) (no-nodes l))
            (λ j d t. rw (upd_other s.op x Init j d) ((I.pair j l).only (rset-was j t)))

    hand : (c : ℕ) (w : Write) → s.hand c ≡ Some w → HandOk O G' h' s'.op c (s.difference c) w
    hand c w e = hand-step O G' h' s'.op (λ j t z. (norm-was j t, sym (settled_same j t) ∙ z, λ i. refl)) (I.hand c w e)

    ---- the phases: nobody holds the failed node
    phase-x : (c j : ℕ) (p : Rebuild) (o : Opmode) (l : Lock) (e : ℕ) → PhaseOk O G c p j o l e → PhaseOk O G' c p j Init Unl 0
    phase-x c j NoRebuild o l e v = refl
    phase-x c j (Locking old) o l e v = record { before = λ t. clash t refl; tight = λ t. clash t refl; was = λ t. clash t refl }
    phase-x c j (Picking y) o l e v = λ t. clash t refl
    phase-x c j (Writing y u z) o l e v =
        record { all_held = λ i. clash refl i; tight = λ t. clash t refl; behind = λ t. clash t refl; member = λ t i. clash refl i }
    phase-x c j (Settling y z) o l e v =
        record { all_held = λ i. clash refl i; behind = λ t. clash t refl; behind_epoch = λ t. clash t refl; ahead = λ t. clash t refl }
    phase-x c j (Unlocking y) o l e v = record { within = v.within; ahead = λ t. clash t refl; norm = λ t. clash t refl; over = λ t. clash t refl }

    phase-other : (c j : ℕ) → x ≢ j → (p : Rebuild) (o : Opmode) (l : Lock) (e : ℕ) → PhaseOk O G c p j o l e → PhaseOk O G' c p j o l e
    phase-other c j d NoRebuild o l e v = v
    phase-other c j d (Locking old) o l e v = record { before = v.before; tight = v.tight; was = v.was }
    phase-other c j d (Picking y) o l e v = v
    phase-other c j d (Writing y u z) o l e v = record { all_held = v.all_held; tight = v.tight; behind = v.behind; member = v.member }
    phase-other c j d (Settling y z) o l e v =
        record {
          all_held = v.all_held;
          behind = λ t a b. upd_other G.is_settled x false j d ∙ v.behind t a b;
          behind_epoch = v.behind_epoch;
          ahead = v.ahead;
        }
    phase-other c j d (Unlocking y) o l e v = record { within = v.within; ahead = v.ahead; norm = v.norm; over = v.over }

    phase : (c j : ℕ) → IsNode O j → PhaseOk O G' c (s.phase c) j (s'.op j) (s'.lock j) (s'.epoch j)
    phase c =
        each-place (λ j. IsNode O j → PhaseOk O G' c (s.phase c) j (s'.op j) (s'.lock j) (s'.epoch j)) x
        (rw (upd_same s.op x Init, upd_same s.lock x Unl, upd_same s.epoch x 0)
        (λ r. phase-x c x (s.phase c) (s.op x) (s.lock x) (s.epoch x) (I.phase c x r)))
        (λ j d. rw (upd_other s.op x Init j d, upd_other s.lock x Unl j d, upd_other s.epoch x 0 j d)
        (λ r. phase-other c j d (s.phase c) (s.op j) (s.lock j) (s.epoch j) (I.phase c j r)))

    rebuild : (c : ℕ) (p : Rebuild) → RebuildOk O G h s.spare c p → RebuildOk O G' h' s.spare c p
    rebuild c NoRebuild r = r
    rebuild c (Locking old) r = r
    rebuild c (Picking y) r = r
    rebuild c (Writing y u z) r =
        record {
          epoch = r.epoch;
          between = λ i p. between_step O h' (r.between i p);
          low = r.low;
          high = r.high;
          spare = r.spare;
          count = r.count;
        }
    rebuild c (Settling y z) r =
        record {
          epoch = r.epoch;
          between = λ i p. between_step O h' (r.between i p);
          low = r.low;
          high = r.high;
          spare = r.spare;
          count = r.count;
        }
    rebuild c (Unlocking y) r = r

    fail-inv : Inv O G' h' s'
    fail-inv =
        record {
          ids = ids_step O G' h' I.ids;
          node = node;
          pair = pair;
          hand = hand;
          finished = λ c. finished-step O G' h' (I.finished c);
          unl = λ t j i. rw (lock-was j i) (I.unl t j (live-was j i));
          weak = λ j l r i. rw (lock-was l i) (I.weak j l (rw (op-was j (recons-live (s'.op j) r)) at r) (live-was l i));
          phase = phase;
          rebuild = λ c. rebuild c (s.phase c) (I.rebuild c);
          one = I.one;
          shown = λ c j r t. each-place (λ j. IsNode O j → s'.lock j ≡ L1 c → s.spare j ≡ s'.block j) x
              (λ r l. let q : Unl ≡ L1 c = sym (upd_same s.lock x Unl) ∙ l in clash refl (ap is_unl q))
              (λ j d r l. I.shown c j r t (sym (upd_other s.lock x Unl j d) ∙ l) ∙ sym (upd_other s.block x v j d)) j r;
        }

  pub fail-good : Laws O → (h : Ledger B) (s : Columns B) (j : ℕ) (v : B) → Good O h s → Good O (note_fail h) (failed s j v)
  fail-good L h s j v g = record { ghost = _; inv = fail-inv L g.inv j v }
