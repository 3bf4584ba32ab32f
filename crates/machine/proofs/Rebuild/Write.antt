-- Write, by what it does to the columns, keeps the invariant: the node's block becomes that of the cut. Assumes nothing.
use Rattle.std.specs.Prelude.{Some}
use mathlib.Core.Path.{◌≡◌, refl, sym, ap, subst, ◌∙◌}
use mathlib.Core.Logic.{◌≢◌, ◌⊎◌, inl, inr}
use mathlib.Core.Bool.{true, false, cond}
use Prim.Native.Nat.{ℕ, suc, ◌≤◌, ◌<◌}
use native.Mathlib.Omega.{arith}
use lib.Dec.{leb}
use borrow.Author.Tests.{leb-true, leb-false}
use Rattle.code.specs.Decode.{NodeSet, has}
use Rattle.entries.specs.declared.Epoch.{Epoch}
use Rattle.records.specs.declared.Opmode.{Opmode}
use Rattle.records.specs.declared.Opmode.TheVariants.{Recons}
use Rattle.records.specs.Node.{is_init, is_norm, is_recons}
use Rattle.records.specs.Client.{Write, Rebuild, Writing, Settling}
use Rattle.basics.proofs.Updates.{upd, upd_same, upd_other, upd-ind}
use Rattle.basics.proofs.Tests.{each-place, clash, cond_ind}
use Rattle.machine.proofs.Columns.{Ops, L1, held_by, Columns, set_blocks, set_ops, set_epochs, set_rsets, set_phases}
use Rattle.machine.proofs.Ledger.{Ledger}
use Rattle.machine.proofs.Invariant.{Ghost, Laws, code, IsNode, Spot, at, Between, NodeOk, PairOk, HandOk, writes, unlocks, WritingOk, PhaseOk, WriterOk, RebuildOk, Inv, Good}
use Rattle.machine.proofs.Frame.{of_live, norm-live, list-frame}
use Rattle.machine.proofs.Phases.{phase-is, rebuild-is, others-quiet, writer-lock, phase-after, rebuild-only, one_writer}
use Rattle.machine.proofs.Progress.{ids_step, finished-step, node-step, hand-step}

module _ (O : Ops) where
  open O use {B, k, n}

  -- the phase after node x is written
  abbrev pub write_phase : ℕ → NodeSet → Epoch → Rebuild
  write_phase x w e = cond (leb n x) (Settling 1 e) (Writing (suc x) w e)

  abbrev pub written : ℕ → ℕ → NodeSet → Epoch → Columns B → Columns B
  written c x w e s =
      set_blocks (upd s.block x (s.spare x))
      (set_ops (upd s.op x Recons) (set_epochs (upd s.epoch x e.0) (set_rsets (upd s.rset x w) (set_phases (upd s.phase c (write_phase x w e)) s))))

  module _ (L : Laws O) (h : Ledger B) (s : Columns B) (g : Good O h s) (c x : ℕ) (w : NodeSet) (e : Epoch) (p : s.phase c ≡ Writing x w e)
      (held : held_by c (s.lock x) ≡ true) where
    abbrev G : Ghost
    G = g.ghost

    abbrev I : Inv O G h s
    I = g.inv

    -- node x stands at the cut, and is not settled
    abbrev G' : Ghost
    G' =
        record {
          id_of = G.id_of;
          base = G.base;
          in_block = upd G.in_block x G.cut;
          in_list = G.in_list;
          cut = G.cut;
          is_settled = upd G.is_settled x false;
          begun = true;
        }

    abbrev op' : ℕ → Opmode
    op' = upd s.op x Recons

    writer : WriterOk O G h s.spare (h.settles c) x e.0
    writer = rebuild-is O I c p

    writing : (j : ℕ) → IsNode O j → WritingOk O G c x (has w) j (s.op j) (s.lock j)
    writing = phase-is O I c p

    -- what is live is at L1
    l1 : (j : ℕ) → is_init (op' j) ≡ false → s.lock j ≡ L1 c
    l1 =
        upd-ind (λ j o. is_init o ≡ false → s.lock j ≡ L1 c) s.op x Recons (λ i. (writing x (record { low = writer.low; high = writer.high })).tight held)
        (λ j ne. writer-lock O I c p refl j)

    live' : (j : ℕ) → is_norm (s.op j) ≡ true → is_init (op' j) ≡ false
    live' = upd-ind (λ j o. is_norm (s.op j) ≡ true → is_init o ≡ false) s.op x Recons (λ t. refl) (λ j ne. norm-live (s.op j))

    ---- the nodes
    at_x : upd G.in_block x G.cut x ≡ G.cut
    at_x = upd_same G.in_block x G.cut

    in_block-other : (j : ℕ) → x ≢ j → (i : ℕ) → upd G.in_block x G.cut j i ≡ G.in_block j i
    in_block-other j ne i = rw (upd_other G.in_block x G.cut j ne)

    itself : NodeOk O G' h x (s.spare x) Recons e.0 (s.entries x)
    itself =
        record {
          live = λ i. record {
            low = writer.low;
            high = writer.high;
            block = writer.spare x writer.low writer.high ∙ ap (λ (f : ℕ → ℕ). code O x (at O h f)) (sym at_x);
            between = λ i sp. subst (λ (f : ℕ → ℕ). Between O h (f i) i) (sym at_x) (writer.between i sp.pos);
            epoch = writer.epoch;
          };
          unwritten = λ t. clash t refl;
          written = λ t. record { under_way = refl; between = writer.between; cut = λ i sp. ap (λ (f : ℕ → ℕ). f i) at_x };
          settled = λ t. clash t (upd_same G.is_settled x false);
          list = list-frame O G G' h h x (s.entries x) (λ i. refl) (λ i l b. refl) (λ i. omega arith) (λ i l t. t) (λ i l a b. inl b) (I.node x).list;
          init = λ t. clash t refl;
          bare = λ t. bare t;
        }
      where
        bare : {A : Type 0} → (is_init Recons ≡ true) ⊎ (G'.is_settled x ≡ true) → A
        bare (inl t) = clash t refl
        bare (inr t) = clash t (upd_same G.is_settled x false)

    node : (j : ℕ) → NodeOk O G' h j (upd s.block x (s.spare x) j) (op' j) (upd s.epoch x e.0 j) (s.entries j)
    node =
        each-place (λ j. NodeOk O G' h j (upd s.block x (s.spare x) j) (op' j) (upd s.epoch x e.0 j) (s.entries j)) x
        (rw (upd_same s.block x (s.spare x), upd_same s.op x Recons, upd_same s.epoch x e.0) itself)
        (λ j ne. rw (upd_other s.block x (s.spare x) j ne, upd_other s.op x Recons j ne, upd_other s.epoch x e.0 j ne)
        (node-step O G' h L (λ t. t)
        (record {
          in_block = in_block-other j ne;
          in_list = λ i. refl;
          is_settled = upd_other G.is_settled x false j ne;
          cut = λ r i. refl;
          begun = λ t. refl;
        }) (I.node j)))

    -- a node that is NORM is not x, and was NORM
    norm-other : (j : ℕ) → is_norm (op' j) ≡ true → (x ≢ j) × (is_norm (s.op j) ≡ true)
    norm-other = upd-ind (λ j o. is_norm o ≡ true → (x ≢ j) × (is_norm (s.op j) ≡ true)) s.op x Recons (λ t. clash t refl) (λ j ne t. (ne, t))

    -- node l stands at the cut; if it did where it was live before, it does where it is now, since x does
    abbrev AtCut : ℕ → (ℕ → ℕ) → Type 0
    AtCut l a = (i : ℕ) → Spot O l i → a i ≡ G.cut i

    at_cut : (l : ℕ) → (is_init (s.op l) ≡ false → AtCut l (G.in_block l)) → is_init (op' l) ≡ false → AtCut l (G'.in_block l)
    at_cut =
        upd-ind (λ l a. (is_init (s.op l) ≡ false → AtCut l (G.in_block l)) → is_init (op' l) ≡ false → AtCut l a) G.in_block x G.cut
        (λ was t i sp. refl) (λ l ne was t. was (rw (upd_other s.op x Recons l ne) at t))

    pair : (j l : ℕ) → PairOk O G' op' (upd s.rset x w) j l
    pair j l =
        record {
          together = λ a b. let (ne, norm) = norm-other l b in upd_other G.is_settled x false l ne ∙ (I.pair j l).together (was_settled j a) norm;
          only = upd-ind (λ j u. has u l ≡ true → is_recons (op' j) ≡ true) s.rset x w (λ t. rw (upd_same s.op x Recons))
              (λ j ne t. rw (upd_other s.op x Recons j ne) ((I.pair j l).only t)) j;
          member = λ t. at_cut l (upd-ind (λ j u. has u l ≡ true → is_init (s.op l) ≡ false → AtCut l (G.in_block l)) s.rset x w
              (λ t i. (writing l (of_live O ((I.node l).live i))).member t i) (λ j ne. (I.pair j l).member) j t);
        }
      where
        was_settled : (j : ℕ) → upd G.is_settled x false j ≡ true → G.is_settled j ≡ true
        was_settled = upd-ind (λ j t. t ≡ true → G.is_settled j ≡ true) G.is_settled x false (λ t. clash t refl) (λ j ne t. t)

    hand : (d : ℕ) (u : Write) → s.hand d ≡ Some u → HandOk O G' h op' d (s.difference d) u
    hand d u q =
        hand-step O G' h op' (λ j a b. let (ne, norm) = norm-other j a in (norm, sym (upd_other G.is_settled x false j ne) ∙ b, in_block-other j ne))
        (I.hand d u q)

    ---- the phases
    behind : (j : ℕ) → IsNode O j → held_by c (s.lock j) ≡ true → 1 ≤ j → j < suc x → is_recons (op' j) ≡ true
    behind =
        upd-ind (λ j o. IsNode O j → held_by c (s.lock j) ≡ true → 1 ≤ j → j < suc x → is_recons o ≡ true) s.op x Recons (λ b t a l. refl)
        (λ j ne b t a l. (writing j b).behind t a (omega arith))

    mine : (j : ℕ) → IsNode O j → PhaseOk O G' c (write_phase x w e) j (op' j) (s.lock j) (upd s.epoch x e.0 j)
    mine j b =
        cond_ind (λ q. PhaseOk O G' c q j (op' j) (s.lock j) (upd s.epoch x e.0 j)) (leb n x) (Settling 1 e) (Writing (suc x) w e)
        (λ t. record {
          all_held = l1 j;
          behind = λ q a l. absurd (omega arith);
          behind_epoch = λ q a l. absurd (omega arith);
          ahead = λ q a l. behind j b q a (let r = leb-true n x t in omega arith);
        }) (λ t. record { all_held = l1 j; tight = (writing j b).tight; behind = behind j b; member = λ q. at_cut j ((writing j b).member q) })

    rebuild : RebuildOk O G' h s.spare c (write_phase x w e)
    rebuild =
        cond_ind (λ q. RebuildOk O G' h s.spare c q) (leb n x) (Settling 1 e) (Writing (suc x) w e)
        (λ t. record {
          epoch = writer.epoch;
          between = writer.between;
          low = omega arith;
          high = omega (arith, writer.low, writer.high);
          spare = writer.spare;
          count = λ y q. writer.count ∙ ap Some (first y q);
        })
        (λ t. record {
          epoch = writer.epoch;
          between = writer.between;
          low = omega arith;
          high = leb-false n x t;
          spare = writer.spare;
          count = writer.count;
        })
      where
        first : (y : ℕ) → 1 ≡ suc y → 0 ≡ y
        first y q = omega arith

    -- who unlocks is another
    shown : (d j : ℕ) → IsNode O j → unlocks (upd s.phase c (write_phase x w e) d) ≡ true → s.lock j ≡ L1 d → s.spare j ≡ s.block j
    shown d j b =
        upd-ind (λ d q. unlocks q ≡ true → s.lock j ≡ L1 d → s.spare j ≡ s.block j) s.phase c (write_phase x w e)
        (λ t. clash t (cond_ind (λ q. unlocks q ≡ false) (leb n x) (Settling 1 e) (Writing (suc x) w e) (λ t. refl) (λ t. refl)))
        (λ d ne t l. I.shown d j b t l) d

    pub write-good : Good O h (written c x w e s)
    write-good =
        record {
          ghost = G';
          inv = record {
            ids = ids_step O G' h I.ids;
            node = node;
            pair = pair;
            hand = hand;
            finished = λ d. finished-step O G' h (I.finished d);
            unl = λ t j i. rw (l1 j i);
            weak = λ j l r i. rw (l1 l i);
            phase = phase-after O I c p refl G' op' (upd s.epoch x e.0) (write_phase x w e) live' l1 mine;
            rebuild = rebuild-only O s.phase c (write_phase x w e) quiet G' h s.spare rebuild;
            one = one_writer O s.phase c (write_phase x w e) quiet;
            shown = λ d j b t l. upd-ind (λ j y. IsNode O j → s.lock j ≡ L1 d → s.spare j ≡ y) s.block x (s.spare x) (λ b l. refl)
                (λ j ne b l. shown d j b t l) j b l;
          };
        }
      where
        quiet : (d : ℕ) → c ≢ d → writes (s.phase d) ≡ false
        quiet = others-quiet O I c p refl
