-- Settle, by what it does to the columns, keeps the invariant; all n nodes then stand at the cut, and the last settle starts the counts anew from it.
-- Assumes nothing.
use Rattle.std.specs.Prelude.{Some}
use mathlib.Core.Path.{◌≡◌, refl, sym, ap, ◌∙◌}
use mathlib.Core.Logic.{◌≢◌, ◌⊎◌, inl, inr}
use mathlib.Core.Bool.{Bool, true, false, cond}
use mathlib.Core.List.{[]}
use Prim.Native.Nat.{ℕ, zero, suc, ◌≤◌, ◌<◌}
use native.Mathlib.Omega.{arith}
use lib.Dec.{eqb, leb, ltb}
use borrow.Author.Tests.{leb-true, leb-false, ltb-true, ltb-false, eqb-true, eq-eqb, ne_eqb}
use Rattle.code.specs.Decode.{has, no_nodes}
use Rattle.entries.specs.declared.WriteId.{WriteId}
use Rattle.entries.specs.declared.Epoch.{Epoch}
use Rattle.entries.specs.Entries.{is_listed}
use Rattle.records.specs.declared.Opmode.TheVariants.{Norm}
use Rattle.records.specs.Node.{is_init, is_norm, is_recons}
use Rattle.records.specs.Client.{Rebuild, Settling, Unlocking}
use Rattle.basics.proofs.Updates.{upd, upd_same, upd_other, upd-ind}
use Rattle.basics.proofs.Tests.{each-place, clash, bool_cases}
use Rattle.machine.proofs.EntryLaws.{listed_nil}
use Rattle.machine.proofs.Columns.{Ops, L1, held_by, Columns, set_ops, set_epochs, set_rsets, set_entries, set_phases}
use Rattle.machine.proofs.Ledger.{Ledger, IsPos, note_count, note_finish, note_settle, zeroth, is_last, Rebuilt}
use Rattle.machine.proofs.Invariant.{Ghost, Laws, code, IsNode, at, OnCut, NodeOk, PairOk, writes, unlocks, SettlingOk, SettlerOk, Inv, Good}
use Rattle.machine.proofs.Frame.{of_live, recons-live, norm-live, norm-recons, code-data, code-red, code-ext}
use Rattle.machine.proofs.Sets.{no-nodes}
use Rattle.machine.proofs.Phases.{phase-is, rebuild-is, others-quiet, writer-lock, phase-after, rebuild-only, one_writer}
use Rattle.machine.proofs.Progress.{between_step, empty-list, ids_step, finished-step, node-step, hand-step}

eqb-leb : (a b : ℕ) → a ≤ b → eqb a b ≡ leb b a
eqb-leb a b h = go (leb b a) refl
  where
    go : (t : Bool) → leb b a ≡ t → eqb a b ≡ t
    go true t = eq-eqb a b (let q = leb-true b a t in omega arith)
    go false t = ne_eqb a b (λ e. let q = leb-false b a t in omega arith)

suc-same : {a b : ℕ} → suc a ≡ suc b → a ≡ b
suc-same e = omega arith

module _ (O : Ops) where
  open O use {B, k, n}

  -- the phase after node x is settled
  abbrev pub settle_phase : ℕ → Epoch → Rebuild
  settle_phase x e = cond (leb n x) (Unlocking 1) (Settling (suc x) e)

  -- the n nodes but for c's phase
  abbrev settled_node : ℕ → ℕ → Columns B → Columns B
  settled_node x e s =
      set_ops (upd s.op x Norm) (set_epochs (upd s.epoch x (suc e)) (set_rsets (upd s.rset x no_nodes) (set_entries (upd s.entries x []) s)))

  abbrev pub settled : ℕ → ℕ → Epoch → Columns B → Columns B
  settled c x e s = set_phases (upd s.phase c (settle_phase x e)) (settled_node x e.0 s)

  module _ (L : Laws O) (h : Ledger B) (s : Columns B) (g : Good O h s) (c x : ℕ) (e : Epoch) (p : s.phase c ≡ Settling x e)
      (held : (j : ℕ) → IsNode O j → held_by c (s.lock j) ≡ true) where
    abbrev G : Ghost
    G = g.ghost

    abbrev I : Inv O G h s
    I = g.inv

    settler : SettlerOk O G h s.spare (h.settles c) x e.0
    settler = rebuild-is O I c p

    settling : (j : ℕ) → IsNode O j → SettlingOk O G c x e.0 j (s.op j) (s.lock j) (s.epoch j)
    settling = phase-is O I c p

    quiet : (d : ℕ) → c ≢ d → writes (s.phase d) ≡ false
    quiet = others-quiet O I c p refl

    node-x : IsNode O x
    node-x = record { low = settler.low; high = settler.high }

    ---- before the call: each of the n nodes is settled, or RECONS from x on
    stand : (j : ℕ) → IsNode O j → (G.is_settled j ≡ true) ⊎ (is_recons (s.op j) ≡ true)
    stand j b = go (ltb j x) refl
      where
        go : (t : Bool) → ltb j x ≡ t → (G.is_settled j ≡ true) ⊎ (is_recons (s.op j) ≡ true)
        go true t = inl ((settling j b).behind (held j b) b.low (ltb-true j x t))
        go false t = inr ((settling j b).ahead (held j b) (ltb-false j x t) b.high)

    -- so it is live, and stands at the cut
    on : (j : ℕ) → IsNode O j → (is_init (s.op j) ≡ false) × OnCut O G h j
    on j b = go (stand j b)
      where
        go : (G.is_settled j ≡ true) ⊎ (is_recons (s.op j) ≡ true) → (is_init (s.op j) ≡ false) × OnCut O G h j
        go (inl t) = let v = (I.node j).settled t in (norm-live (s.op j) v.norm, v.on)
        go (inr t) = (recons-live (s.op j) t, (I.node j).written t)

    -- and the blocks are the codeword of the cut
    block : (j : ℕ) → IsNode O j → s.block j ≡ code O j (at O h G.cut)
    block j b =
        let (live, cut) = on j b in
        ((I.node j).live live).block ∙ code-ext O L j (at O h (G.in_block j)) (at O h G.cut) b.low (λ i sp. ap (h.val i) (cut.cut i sp))

    data-node : (i : ℕ) → IsPos O i → IsNode O i
    data-node i q = record { low = q.low; high = omega (arith, q.high, L.k_n) }

    data-block : (i : ℕ) → IsPos O i → s.block i ≡ h.val i (G.cut i)
    data-block i q = block i (data-node i q) ∙ code-data O i (at O h G.cut) q.high

    of-data : (j : ℕ) → IsNode O j → s.block j ≡ code O j s.block
    of-data j b = block j b ∙ code-ext O L j (at O h G.cut) s.block b.low (λ i sp. sym (data-block i sp.pos))

    pub settled-rebuilt : Rebuilt O h s.block
    settled-rebuilt =
        record {
          codeword = λ j a b. of-data j (record { low = omega arith; high = b }) ∙ code-red O j s.block a;
          part = λ i q. let v = (on i (data-node i q)).1.between i q in (G.cut i, (v.most, data-block i q, v.least));
          reported = I.ids.no_stale;
        }

    ---- the node settled, and one settle more counted
    abbrev h' : Ledger B
    h' = note_count h c x

    abbrev G' : Ghost
    G' =
        record {
          id_of = G.id_of;
          base = G.base;
          in_block = G.in_block;
          in_list = upd G.in_list x (λ i. 0);
          cut = G.cut;
          is_settled = upd G.is_settled x true;
          begun = G.begun;
        }

    abbrev s' : Columns B
    s' = settled_node x e.0 s

    was-live : (j : ℕ) → is_init (s'.op j) ≡ false → is_init (s.op j) ≡ false
    was-live = upd-ind (λ j o. is_init o ≡ false → is_init (s.op j) ≡ false) s.op x Norm (λ i. (on x node-x).0) (λ j ne i. i)

    live' : (j : ℕ) → is_norm (s.op j) ≡ true → is_init (s'.op j) ≡ false
    live' = upd-ind (λ j o. is_norm (s.op j) ≡ true → is_init o ≡ false) s.op x Norm (λ t. refl) (λ j ne. norm-live (s.op j))

    l1 : (j : ℕ) → is_init (s'.op j) ≡ false → s.lock j ≡ L1 c
    l1 j i = writer-lock O I c p refl j (was-live j i)

    itself : NodeOk O G' h' x (s.block x) Norm (suc e.0) []
    itself =
        record {
          live = λ i. let v = (I.node x).live (on x node-x).0 in
              record {
                low = v.low;
                high = v.high;
                block = v.block;
                between = λ i sp. between_step O h' (v.between i sp);
                epoch = omega (arith, settler.epoch);
              };
          unwritten = λ t f. clash (upd_same G.is_settled x true) f;
          written = λ t. clash t refl;
          settled = λ t. let v = (on x node-x).1 in
              record {
                norm = refl;
                on = record { under_way = v.under_way; between = λ i q. between_step O h' (v.between i q); cut = v.cut };
                later = omega (arith, settler.epoch);
              };
          list = empty-list O G' h' x [] bare (λ y t. listed_nil y t);
          init = λ t. clash t refl;
          bare = λ t. bare;
        }
      where
        bare : (i : ℕ) → upd G.in_list x (λ i. 0) x i ≡ 0
        bare i = rw (upd_same G.in_list x (λ i. 0))

    node : (j : ℕ) → NodeOk O G' h' j (s.block j) (s'.op j) (s'.epoch j) (s'.entries j)
    node =
        each-place (λ j. NodeOk O G' h' j (s.block j) (s'.op j) (s'.epoch j) (s'.entries j)) x
        (rw (upd_same s.op x Norm, upd_same s.epoch x (suc e.0), upd_same s.entries x []) itself)
        (λ j ne. rw (upd_other s.op x Norm j ne, upd_other s.epoch x (suc e.0) j ne, upd_other s.entries x [] j ne)
        (node-step O G' h' L (λ t. t)
        (record {
          in_block = λ i. refl;
          in_list = λ i. rw (upd_other G.in_list x (λ i. 0) j ne);
          is_settled = upd_other G.is_settled x true j ne;
          cut = λ r i. refl;
          begun = λ t. t;
        }) (I.node j)))

    -- up to x the nodes are settled now, with epoch e + 1, and after it they are RECONS
    settling' : (j : ℕ) → IsNode O j → SettlingOk O G' c (suc x) e.0 j (s'.op j) (s.lock j) (s'.epoch j)
    settling' =
        each-place (λ j. IsNode O j → SettlingOk O G' c (suc x) e.0 j (s'.op j) (s.lock j) (s'.epoch j)) x
        (λ b. record {
          all_held = l1 x;
          behind = λ t a l. upd_same G.is_settled x true;
          behind_epoch = λ t a l. upd_same s.epoch x (suc e.0);
          ahead = λ t a l. absurd (omega arith);
        })
        (λ j ne b. let v = settling j b in
        record {
          all_held = l1 j;
          behind = λ t a l. upd_other G.is_settled x true j ne ∙ v.behind t a (omega arith);
          behind_epoch = λ t a l. upd_other s.epoch x (suc e.0) j ne ∙ v.behind_epoch t a (omega arith);
          ahead = λ t a l. rw (upd_other s.op x Norm j ne) (v.ahead t (omega arith) l);
        })

    -- a NORM node is settled
    norm-settled : (j : ℕ) → is_norm (s'.op j) ≡ true → G'.is_settled j ≡ true
    norm-settled j norm = go (ltb j (suc x)) refl
      where
        b : IsNode O j
        b = of_live O ((node j).live (norm-live (s'.op j) norm))

        go : (t : Bool) → ltb j (suc x) ≡ t → G'.is_settled j ≡ true
        go true t = (settling' j b).behind (held j b) b.low (ltb-true j (suc x) t)
        go false t = norm-recons (s'.op j) norm ((settling' j b).ahead (held j b) (ltb-false j (suc x) t) b.high)

    pair : (j l : ℕ) → PairOk O G' s'.op s'.rset j l
    pair j l =
        record {
          together = λ a b. norm-settled l b;
          only = each-place (λ j. has (s'.rset j) l ≡ true → is_recons (s'.op j) ≡ true) x (λ t. clash (rw (upd_same s.rset x no_nodes) at t) (no-nodes l))
              (λ j ne t. rw (upd_other s.op x Norm j ne) ((I.pair j l).only (rset-was j t))) j;
          member = λ t i. (I.pair j l).member (rset-was j t) (was-live l i);
        }
      where
        rset-was : (j : ℕ) → has (s'.rset j) l ≡ true → has (s.rset j) l ≡ true
        rset-was = upd-ind (λ j u. has u l ≡ true → has (s.rset j) l ≡ true) s.rset x no_nodes (λ t. clash t (no-nodes l)) (λ j ne t. t)

    settled-inv : x < n → Inv O G' h' (set_phases (upd s.phase c (Settling (suc x) e)) s')
    settled-inv more =
        record {
          ids = ids_step O G' h' I.ids;
          node = node;
          pair = pair;
          hand = λ d u q. hand-step O G' h' s'.op (λ j a b. clash (norm-settled j a) b) (I.hand d u q);
          finished = λ d. finished-step O G' h' (I.finished d);
          unl = λ t j i. rw (l1 j i);
          weak = λ j l r i. rw (l1 l i);
          phase = phase-after O I c p refl G' s'.op s'.epoch (Settling (suc x) e) live' l1 settling';
          rebuild = rebuild-only O s.phase c (Settling (suc x) e) quiet G' h' s.spare
              (record {
                epoch = settler.epoch;
                between = λ i q. between_step O h' (settler.between i q);
                low = omega arith;
                high = more;
                spare = settler.spare;
                count = λ y q. upd_same h.settles c (Some x) ∙ ap Some (suc-same q);
              });
          one = one_writer O s.phase c (Settling (suc x) e) quiet;
          shown = λ d j b. upd-ind (λ d q. unlocks q ≡ true → s.lock j ≡ L1 d → s.spare j ≡ s.block j) s.phase c (Settling (suc x) e)
              (λ t. clash t refl) (λ d ne t l. I.shown d j b t l) d;
        }

    ---- the last one
    module _ (end : x ≡ n) where
      abbrev hf : Ledger B
      hf = note_finish h c x s.block

      abbrev Gf : Ghost
      Gf = record { id_of = G.id_of; base = suc e.0; in_block = λ j i. 0; in_list = λ j i. 0; cut = G.cut; is_settled = λ j. false; begun = false }

      -- every node is settled now
      all_settled : (j : ℕ) → IsNode O j → G'.is_settled j ≡ true
      all_settled j b = (settling' j b).behind (held j b) b.low (let a = b.high in omega arith)

      all-norm : (j : ℕ) → IsNode O j → is_norm (s'.op j) ≡ true
      all-norm j b = ((node j).settled (all_settled j b)).norm

      epoch-all : (j : ℕ) → IsNode O j → s'.epoch j ≡ suc e.0
      epoch-all j b = (settling' j b).behind_epoch (held j b) b.low (let a = b.high in omega arith)

      in-range : (j : ℕ) → is_init (s'.op j) ≡ false → IsNode O j
      in-range j i = of_live O ((node j).live i)

      no-recons : (j : ℕ) {A : Type 0} → is_recons (s'.op j) ≡ true → A
      no-recons j t = norm-recons (s'.op j) (all-norm j (in-range j (recons-live (s'.op j) t))) t

      -- and no list has an entry left
      empty : (j : ℕ) (y : WriteId) → is_listed y (s'.entries j) ≡ true → ⊥
      empty j y t = omega (arith, (node j).list.listed y t, (node j).bare (bare (bool_cases (is_init (s'.op j)))) y.position)
        where
          bare : (is_init (s'.op j) ≡ true) ⊎ (is_init (s'.op j) ≡ false) → (is_init (s'.op j) ≡ true) ⊎ (G'.is_settled j ≡ true)
          bare (inl i) = inl i
          bare (inr i) = inr (all_settled j (in-range j i))

      zero-le : (i l : ℕ) → zeroth i l ≡ true → l ≤ 0
      zero-le i l t = let q = eqb-true l 0 t in omega arith

      node-anew : (j : ℕ) → NodeOk O Gf hf j (s.block j) (s'.op j) (s'.epoch j) (s'.entries j)
      node-anew j =
          record {
            live = λ i. let b = in-range j i in
                record {
                  low = b.low;
                  high = b.high;
                  block = of-data j b;
                  between = λ i sp. record { most = omega arith; least = zero-le i };
                  epoch = omega (arith, epoch-all j b);
                };
            unwritten = λ t f. let b = in-range j (norm-live (s'.op j) t) in
                record { epoch = epoch-all j b; same = λ i sp. refl; own = λ q. refl; newest = λ q. inr refl };
            written = λ t. no-recons j t;
            settled = λ t. clash t refl;
            list = empty-list O Gf hf j (s'.entries j) (λ i. refl) (empty j);
            init = λ t a b. clash t (norm-live (s'.op j) (all-norm j (record { low = a; high = b })));
            bare = λ t i. refl;
          }

      finished-inv : Inv O Gf hf (set_phases (upd s.phase c (Unlocking 1)) s')
      finished-inv =
          record {
            ids = record {
              id_of-pos = λ i l a b. absurd (omega arith);
              id_of-inj = λ i l q a b. absurd (omega arith);
              id_of-old = λ i l a b. absurd (omega arith);
              zero_done = λ i. refl;
              done_len = zero-le;
              no_stale = refl;
            };
            node = node-anew;
            pair = λ j l. record { together = λ t. clash t refl; only = (pair j l).only; member = λ t. no-recons j ((pair j l).only t) };
            -- a write in hand is older than the rebuild
            hand = λ d u q. let a = (I.hand d u q).epoch in let b = settler.epoch in record { epoch = omega arith; own = λ t. absurd (omega arith) };
            finished = λ d. record { done = λ y t i l a b. absurd (omega arith); client = (I.finished d).client; number = (I.finished d).number };
            unl = λ t. clash t refl;
            weak = λ j l r i. rw (l1 l i);
            phase = phase-after O I c p refl Gf s'.op s'.epoch (Unlocking 1) live' l1
                (λ j b. record {
                  within = record { low = omega arith; high = omega (arith, settler.low, settler.high) };
                  ahead = λ t. b.low;
                  norm = λ t. all-norm j b;
                  over = λ t. refl;
                });
            rebuild = rebuild-only O s.phase c (Unlocking 1) quiet Gf hf s.spare tt;
            one = one_writer O s.phase c (Unlocking 1) quiet;
            shown = λ d j b. upd-ind (λ d q. unlocks q ≡ true → s.lock j ≡ L1 d → s.spare j ≡ s.block j) s.phase c (Unlocking 1)
                (λ t l. settler.spare j b.low b.high ∙ sym (block j b)) (λ d ne t l. I.shown d j b t l) d;
          }

    ---- which of the two it is
    count : (y : ℕ) × (x ≡ suc y) × (h.settles c ≡ Some y)
    count = go x refl
      where
        go : (y : ℕ) → x ≡ y → (y : ℕ) × (x ≡ suc y) × (h.settles c ≡ Some y)
        go zero q = let a = settler.low in absurd (omega arith)
        go (suc y) q = (y, q, settler.count y q)

    -- the nth settle is that of node n
    pub settled-last : is_last O (h.settles c) ≡ leb n x
    settled-last = ap (is_last O) count.2 ∙ ap (λ y. eqb y n) (sym count.1) ∙ eqb-leb x n settler.high

    note-is : note_settle O h c (h.settles c) s.block ≡ cond (leb n x) (note_finish h c x s.block) (note_count h c x)
    note-is =
        ap (λ t. note_settle O h c t s.block) count.2
        ∙ ap (λ y. cond (eqb y n) (note_finish h c y s.block) (note_count h c y)) (sym count.1)
        ∙ ap (λ t. cond t (note_finish h c x s.block) (note_count h c x)) (eqb-leb x n settler.high)

    pub settle-good : Good O (note_settle O h c (h.settles c) s.block) (settled c x e s)
    settle-good = rw note-is (go (leb n x) refl)
      where
        go : (t : Bool) → leb n x ≡ t →
            Good O (cond t (note_finish h c x s.block) (note_count h c x)) (set_phases (upd s.phase c (cond t (Unlocking 1) (Settling (suc x) e))) s')
        go true t = record { ghost = Gf (end t); inv = finished-inv (end t) }
          where
            end : leb n x ≡ true → x ≡ n
            end t = omega (arith, leb-true n x t, settler.high)
        go false t = record { ghost = G'; inv = settled-inv (leb-false n x t) }
