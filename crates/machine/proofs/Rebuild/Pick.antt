-- Pick: the members of the set taken all stand at one cut, so what is decoded from them is the codeword of that cut. Assumes nothing.
use Rattle.std.specs.Prelude.{Some}
use mathlib.Core.Path.{◌≡◌, refl, sym, ap, subst, ◌∙◌}
use mathlib.Core.Logic.{◌≢◌, ◌⊎◌, inl, inr}
use mathlib.Core.Bool.{Bool, true, false}
use Prim.Native.Nat.{ℕ, zero, suc, ◌≤◌, ◌<◌}
use native.Mathlib.Omega.{arith}
use lib.Dec.{leb}
use borrow.Author.Tests.{leb-true, leb-false}
use Rattle.code.specs.Decode.{NodeSet, has, size, lowest}
use Rattle.code.proofs.NodeSets.{lowest-has}
use Rattle.entries.specs.declared.WriteId.{WriteId}
use Rattle.entries.specs.declared.Epoch.{Epoch}
use Rattle.entries.specs.Entries.{is_recent_in, is_old_in}
use Rattle.records.specs.Node.{is_init, is_norm, is_recons}
use Rattle.records.specs.Client.{Writing}
use Rattle.basics.proofs.Updates.{upd, upd_same, upd-ind}
use Rattle.basics.proofs.Tests.{clash, is_false, bool_cases}
use Rattle.machine.proofs.EntryLaws.{recent-listed}
use Rattle.machine.proofs.Columns.{Ops, L1, Columns, set_spare, set_phases}
use Rattle.machine.proofs.Ledger.{Ledger, IsPos, note_count}
use Rattle.machine.proofs.Invariant.{Ghost, Laws, IsNode, Spot, at, Between, Live, Unwritten, writes, unlocks, WritingOk, PhaseOk, WriterOk, Inv, Good}
use Rattle.machine.proofs.Frame.{of_live, counted, writer-holds, recons-live, norm-live, code-ext, phase-quiet}
use Rattle.machine.proofs.Phases.{rebuild-only, one_writer}
use Rattle.machine.proofs.Progress.{between_step, ids_step, finished-step, node-step, hand-step}

-- P holds of each member
abbrev pub Each : NodeSet → (ℕ → Type 0) → Type 0
Each w P = (j : ℕ) → has w j ≡ true → P j

same-l1 : {c d : ℕ} → L1 c ≡ L1 d → c ≡ d
same-l1 e = cc

module _ (O : Ops) where
  open O use {B, k, n, decode}

  abbrev pub picked : ℕ → NodeSet → Epoch → Columns B → Columns B
  picked c w e s = set_phases (upd s.phase c (Writing 1 w e)) (set_spare (decode w s.block) s)

  ---- the sets that a pick may take
  -- f of node a is within f of node b: what is recent at a, and marked old at no NORM node, is recent at b
  abbrev pub FWithin : Columns B → ℕ → ℕ → Type 0
  FWithin s a b =
      (x : WriteId) → is_recent_in x (s.entries a) ≡ true → ((j : ℕ) → is_norm (s.op j) ≡ true → is_old_in x (s.entries j) ≡ false) →
      is_recent_in x (s.entries b) ≡ true

  -- data nodes alone, or nodes that fit the redundant node r; of a data member's f and that of r only one inclusion is needed
  pub data Consistent (s : Columns B) (w : NodeSet) : Type 0 where
    all-data : Each w (λ j. j ≤ k) → Consistent s w
    beside : (r : ℕ) → k < r → is_norm (s.op r) ≡ true → Each w (λ j. FWithin s j r) → Each w (λ j. k < j → FWithin s r j) → Consistent s w

  -- node j is RECONS, or live and in an rset
  abbrev pub Resumes : Columns B → ℕ → Type 0
  Resumes s j = (is_recons (s.op j) ≡ true) ⊎ ((is_init (s.op j) ≡ false) × ((l : ℕ) × (has (s.rset l) j ≡ true)))

  -- where no node is RECONS, a consistent set of NORM nodes; where r is, nodes that resume
  pub data Candidate (s : Columns B) (w : NodeSet) : Type 0 where
    anew : ((j : ℕ) → is_recons (s.op j) ≡ false) → Each w (λ j. is_norm (s.op j) ≡ true) → Consistent s w → Candidate s w
    resumed : (r : ℕ) → is_recons (s.op r) ≡ true → Each w (Resumes s) → Candidate s w

  ---- their members stand at one cut
  -- node j is written or settled
  abbrev Under-way : Ghost → Columns B → ℕ → Type 0
  Under-way G s j = (is_recons (s.op j) ≡ true) ⊎ (G.is_settled j ≡ true)

  record Agrees (G : Ghost) (h : Ledger B) (s : Columns B) (w : NodeSet) : Type 0 where
    cut : ℕ → ℕ
    between : (i : ℕ) → IsPos O i → Between O h (cut i) i
    live : Each w (λ j. is_init (s.op j) ≡ false)
    at_cut : Each w (λ j. (i : ℕ) → Spot O j i → G.in_block j i ≡ cut i)
    -- what is written or settled keeps its cut
    same : (j : ℕ) → Under-way G s j → (i : ℕ) → cut i ≡ G.cut i

  module _ {G : Ghost} {h : Ledger B} {s : Columns B} (I : Inv O G h s) where
    -- with a node written or settled: they stand at its cut
    cut-agrees : {w : NodeSet} (r : ℕ) → Under-way G s r → Each w (λ j. is_init (s.op j) ≡ false) →
        Each w (λ j. (i : ℕ) → Spot O j i → G.in_block j i ≡ G.cut i) → Agrees G h s w
    cut-agrees r e live at_cut = record { cut = G.cut; between = between e; live = live; at_cut = at_cut; same = λ j t i. refl }
      where
        between : Under-way G s r → (i : ℕ) → IsPos O i → Between O h (G.cut i) i
        between (inl t) = ((I.node r).written t).between
        between (inr t) = ((I.node r).settled t).on.between

    -- none is written or settled
    module _ (no-recons : (j : ℕ) → is_recons (s.op j) ≡ false) (none-settled : (j : ℕ) → G.is_settled j ≡ false) where
      unwritten : (j : ℕ) → is_norm (s.op j) ≡ true → Unwritten O G h j (s.epoch j) (s.entries j)
      unwritten j norm = (I.node j).unwritten norm (none-settled j)

      live : (j : ℕ) → is_norm (s.op j) ≡ true → Live O G h j (s.block j) (s.epoch j)
      live j norm = (I.node j).live (norm-live (s.op j) norm)

      none : {A : Type 0} (j : ℕ) → Under-way G s j → A
      none j (inl t) = clash t (no-recons j)
      none j (inr t) = clash t (none-settled j)

      -- what is in node a's block is in node b's: its last swap is done, or it is in f of a, so in f of b
      reach : (a b i : ℕ) → is_norm (s.op a) ≡ true → is_norm (s.op b) ≡ true → Spot O a i → Spot O b i → FWithin s a b → G.in_block a i ≤ G.in_block b i
      reach a b i na nb at_a at_b within = go (bool_cases (h.done i (G.in_block a i)))
        where
          positive : (l : ℕ) → h.done i l ≡ false → 1 ≤ l
          positive zero f = clash (I.ids.zero_done i) f
          positive (suc l) f = omega arith

          listed : (l : ℕ) → 1 ≤ l → l ≤ G.in_block a i → h.done i l ≡ false → l ≤ G.in_block b i
          listed l low high undone =
              let same-a = (unwritten a na).same i at_a in
              let same-b = (unwritten b nb).same i at_b in
              let most : l ≤ h.len i = (let m = ((live a na).between i at_a).most in omega arith) in
              let recent = (I.node a).list.undone i l at_a low (omega arith) undone in
              let there = within (G.id_of i l) recent
              (λ j t. is_false (is_old_in (G.id_of i l) (s.entries j)) (λ o. clash ((I.node j).list.old i l low most o) undone)) in
              let in_List = (counted O I b i l low most (recent-listed (G.id_of i l) (s.entries b) there)).1 in omega arith

          go : (h.done i (G.in_block a i) ≡ true) ⊎ (h.done i (G.in_block a i) ≡ false) → G.in_block a i ≤ G.in_block b i
          go (inl t) = ((live b nb).between i at_b).least (G.in_block a i) t
          go (inr f) = listed (G.in_block a i) (positive (G.in_block a i) f) (omega arith) f

      -- a data node's block has all swaps at its position
      own : (j i : ℕ) → is_norm (s.op j) ≡ true → j ≤ k → Spot O j i → G.in_block j i ≡ h.len i
      own j i norm le sp = go sp.sees
        where
          go : (i ≡ j) ⊎ (k < j) → G.in_block j i ≡ h.len i
          go (inl e) = subst (λ i. G.in_block j i ≡ h.len i) (sym e) ((unwritten j norm).own le)
          go (inr a) = omega arith

      consistent-agrees : {w : NodeSet} → Each w (λ j. is_norm (s.op j) ≡ true) → Consistent s w → Agrees G h s w
      consistent-agrees norm (all-data data-node) =
          record {
            cut = h.len;
            between = λ i p. record { most = omega arith; least = I.ids.done_len i };
            live = λ j m. norm-live (s.op j) (norm j m);
            at_cut = λ j m i. own j i (norm j m) (data-node j m);
            same = λ j t. none j t;
          }
      consistent-agrees {w} norm (beside r red nr in-r of-r) =
          record {
            cut = G.in_block r;
            between = λ i p. (live r nr).between i (at-r i p);
            live = λ j m. norm-live (s.op j) (norm j m);
            at_cut = at_cut;
            same = λ j t. none j t;
          }
        where
          at-r : (i : ℕ) → IsPos O i → Spot O r i
          at-r i p = record { pos = p; sees = inr red }

          at_cut : Each w (λ j. (i : ℕ) → Spot O j i → G.in_block j i ≡ G.in_block r i)
          at_cut j m i sp = go (leb j k) refl
            where
              below : G.in_block j i ≤ G.in_block r i
              below = reach j r i (norm j m) nr sp (at-r i sp.pos) (in-r j m)

              go : (t : Bool) → leb j k ≡ t → G.in_block j i ≡ G.in_block r i
              go true e = omega (arith, below, own j i (norm j m) (leb-true j k e) sp, ((live r nr).between i (at-r i sp.pos)).most)
              go false e = omega (arith, below, reach r j i nr (norm j m) (at-r i sp.pos) sp (of-r j m (leb-false j k e)))

    candidate-agrees : {w : NodeSet} (m : ℕ) → has w m ≡ true → Candidate s w → Agrees G h s w
    candidate-agrees {w} m in-w (anew no-recons norm consistent) = go (bool_cases (G.is_settled m))
      where
        -- if one NORM node is settled all are
        go : (G.is_settled m ≡ true) ⊎ (G.is_settled m ≡ false) → Agrees G h s w
        go (inl t) = cut-agrees m (inr t) (λ j q. norm-live (s.op j) (norm j q)) (λ j q. ((I.node j).settled ((I.pair m j).together t (norm j q))).on.cut)
        go (inr f) = consistent-agrees no-recons (λ j. is_false (G.is_settled j) (λ t. clash ((I.pair j m).together t (norm m in-w)) f)) norm consistent
    candidate-agrees m in-w (resumed r recons is) = cut-agrees r (inl recons) (λ j q. live j (is j q)) (λ j q. at_cut j (is j q))
      where
        live : (j : ℕ) → Resumes s j → is_init (s.op j) ≡ false
        live j (inl t) = recons-live (s.op j) t
        live j (inr t) = t.0

        at_cut : (j : ℕ) → Resumes s j → (i : ℕ) → Spot O j i → G.in_block j i ≡ G.cut i
        at_cut j (inl t) = ((I.node j).written t).cut
        at_cut j (inr t) = (I.pair t.1.0 j).member t.1.1 t.0

  ---- the pick
  module _ (L : Laws O) (h : Ledger B) (s : Columns B) (g : Good O h s) (c : ℕ) (w : NodeSet) (e : Epoch) (candidate : Candidate s w) (many : k ≤ size w)
      (held : (j : ℕ) → IsNode O j → s.lock j ≡ L1 c) (top : (j : ℕ) → IsNode O j → s.epoch j ≤ e.0) where
    abbrev G : Ghost
    G = g.ghost

    abbrev I : Inv O G h s
    I = g.inv

    -- a member
    abbrev m : ℕ
    m = lowest w 1

    in-w : has w m ≡ true
    in-w = lowest-has w 1 (omega arith) (omega (arith, L.k_two))

    A : Agrees G h s w
    A = candidate-agrees I m in-w candidate

    abbrev G' : Ghost
    G' = record { id_of = G.id_of; base = G.base; in_block = G.in_block; in_list = G.in_list; cut = A.cut; is_settled = G.is_settled; begun = G.begun }

    abbrev h' : Ledger B
    h' = note_count h c 0

    live-member : (j : ℕ) → has w j ≡ true → Live O G h j (s.block j) (s.epoch j)
    live-member j q = (I.node j).live (A.live j q)

    node-m : IsNode O m
    node-m = of_live O (live-member m in-w)

    -- another who wrote would hold m
    quiet : (d : ℕ) → c ≢ d → writes (s.phase d) ≡ false
    quiet d ne = is_false (writes (s.phase d)) (λ t. absurd (ne (same-l1 (sym (held m node-m) ∙ theirs t))))
      where
        theirs : writes (s.phase d) ≡ true → s.lock m ≡ L1 d
        theirs t = writer-holds O G d m (s.phase d) (s.op m) (s.lock m) (s.epoch m) (I.phase d m node-m) t (A.live m in-w)

    writing : (j : ℕ) → IsNode O j → WritingOk O G' c 1 (has w) j (s.op j) (s.lock j)
    writing j b = record { all_held = λ i. held j b; tight = λ t. held j b; behind = λ q a t. absurd (omega arith); member = λ q i. A.at_cut j q }

    writer : WriterOk O G' h' (decode w s.block) (h'.settles c) 1 e.0
    writer =
        record {
          epoch = omega (arith, (live-member m in-w).epoch, top m node-m);
          between = λ i p. between_step O h' (A.between i p);
          low = omega arith;
          high = omega (arith, L.k_n);
          spare = L.decodes w s.block (at O h A.cut) many (λ j q. let v = live-member j q in
              (v.low, v.high, v.block ∙ code-ext O L j (at O h (G.in_block j)) (at O h A.cut) v.low (λ i sp. ap (h.val i) (A.at_cut j q i sp))));
          count = upd_same h.settles c (Some 0);
        }

    pub pick_good : Good O h' (picked c w e s)
    pick_good =
        record {
          ghost = G';
          inv = record {
            ids = ids_step O G' h' I.ids;
            node = λ j. node-step O G' h' L (λ t. t)
                (record { in_block = λ i. refl; in_list = λ i. refl; is_settled = refl; cut = A.same j; begun = λ t. t }) (I.node j);
            pair = λ j l. let v = I.pair j l in
                record { together = v.together; only = v.only; member = λ q t i sp. v.member q t i sp ∙ sym (A.same j (inl (v.only q)) i) };
            hand = λ d u q. hand-step O G' h' s.op (λ j a b. (a, b, λ i. refl)) (I.hand d u q);
            finished = λ d. finished-step O G' h' (I.finished d);
            unl = I.unl;
            weak = I.weak;
            phase = upd-ind (λ d q. (j : ℕ) → IsNode O j → PhaseOk O G' d q j (s.op j) (s.lock j) (s.epoch j)) s.phase c (Writing 1 w e) writing
                (λ d ne j b. phase-quiet O G G' refl d j (s.phase d) (s.op j) (s.lock j) (s.epoch j) (quiet d ne) (I.phase d j b));
            rebuild = rebuild-only O s.phase c (Writing 1 w e) quiet G' h' (decode w s.block) writer;
            one = one_writer O s.phase c (Writing 1 w e) quiet;
            -- nobody else holds a node
            shown = λ d j b. upd-ind (λ d q. unlocks q ≡ true → s.lock j ≡ L1 d → decode w s.block j ≡ s.block j) s.phase c (Writing 1 w e)
                (λ t. clash t refl) (λ d ne t l. absurd (ne (same-l1 (sym (held j b) ∙ l)))) d;
          };
        }
