-- A write's id enters a node's list and its value the node's block: what swap and add share. Assumes nothing.
use Rattle.std.specs.Prelude.{Option, Some}
use mathlib.Core.Path.{◌≡◌, refl, sym, ap, ◌∙◌}
use mathlib.Core.Logic.{◌≢◌, ◌⊎◌, inl, inr}
use mathlib.Core.Bool.{Bool, true, false, ◌||◌}
use mathlib.Core.List.{List}
use Prim.Native.Nat.{ℕ, suc, ◌≤◌}
use native.Mathlib.Nat.{le_trans}
use native.Mathlib.Omega.{arith}
use Rattle.entries.specs.declared.WriteId.{WriteId}
use Rattle.entries.specs.Entries.{Entry, same_id, is_listed, is_recent_in, is_old_in, enter}
use Rattle.records.specs.Node.{is_init, is_norm, is_recons}
use Rattle.records.specs.Client.{Write}
use Rattle.basics.proofs.Updates.{upd, upd_same, upd_other, upd-ind}
use Rattle.basics.proofs.Tests.{each-place, same_or, clash, is_false, or-one, or_left, or_right}
use Rattle.machine.proofs.EntryLaws.{same_id_lem, same-id-refl, listed-enter, recent-enter, old-enter, last-enter}
use Rattle.machine.proofs.Columns.{Ops, L1, is_unl, is_l0, Columns, set_blocks, set_entries, set_hands, set_finished, set_nexts, set_differences}
use Rattle.machine.proofs.Ledger.{Ledger, upd2}
use Rattle.machine.proofs.Invariant.{Ghost, Laws, IsNode, code, Spot, at, Between, IdsOk, Live, Unwritten, Among, ListOk, NodeOk, HandOk, FinishedOk, writes, Inv}
use Rattle.machine.proofs.Frame.{live-cases, norm-live, upd2-same, upd2-pos, upd2-at, upd2-other, upd2-ind, list-frame, Grown, node-frame, hand-frame, no-writer, phase-quiet, rebuild-quiet}

module _ (O : Ops) where
  open O use {B, k, n}

  -- node j takes writes, and no node is settled
  pub record Takes (G : Ghost) (s : Columns B) (j : ℕ) : Type 0 where
    pub norm : is_norm (s.op j) ≡ true
    pub lock : (is_unl (s.lock j) || is_l0 (s.lock j)) ≡ true
    pub unsettled : (m : ℕ) → G.is_settled m ≡ false

  module _ {G : Ghost} {h : Ledger B} {s : Columns B} (I : Inv O G h s) {j : ℕ} (T : Takes G s j) where
    pub taker-live : is_init (s.op j) ≡ false
    taker-live = norm-live (s.op j) T.norm

    no-recons : (m : ℕ) → is_recons (s.op m) ≡ false
    no-recons m =
        is_false (is_recons (s.op m)) (λ e. clash T.lock (rw (I.unl ((I.node m).written e).under_way j taker-live, I.weak m j e taker-live)))

    -- so every node that is not INIT is as the swaps and adds have left it
    pub all-norm : (m : ℕ) → is_init (s.op m) ≡ false → is_norm (s.op m) ≡ true
    all-norm m a = go (live-cases (s.op m) a)
      where
        go : (is_norm (s.op m) ≡ true) ⊎ (is_recons (s.op m) ≡ true) → is_norm (s.op m) ≡ true
        go (inl e) = e
        go (inr e) = clash e (no-recons m)

    pub all-unwritten : (m : ℕ) → is_init (s.op m) ≡ false → Unwritten O G h m (s.epoch m) (s.entries m)
    all-unwritten m a = (I.node m).unwritten (all-norm m a) (T.unsettled m)

    not-cut : {A : Type 0} (m : ℕ) → (is_recons (s.op m) ≡ true) ⊎ (G.is_settled m ≡ true) → A
    not-cut m (inl e) = clash e (no-recons m)
    not-cut m (inr e) = clash e (T.unsettled m)

  -- the ghost after swap suc q at i has entered node j; id_of has its id by then
  abbrev pub entered : Ghost → (ℕ → ℕ → WriteId) → ℕ → ℕ → ℕ → Ghost
  entered G id_of j i q =
      record {
        id_of = id_of;
        base = G.base;
        in_block = upd2 G.in_block j i (suc q);
        in_list = upd2 G.in_list j i (suc q);
        cut = G.cut;
        is_settled = G.is_settled;
        begun = G.begun;
      }

  -- every node that sees i has the swap then
  abbrev pub Everywhere : Ghost → Columns B → ℕ → ℕ → ℕ → Type 0
  Everywhere G s j i q = (m : ℕ) → is_init (s.op m) ≡ false → Spot O m i → suc q ≤ upd2 G.in_block j i (suc q) m i

  -- dn is what is done then: what was, and perhaps this swap
  pub record DoneThen (G : Ghost) (h : Ledger B) (s : Columns B) (j i q : ℕ) (dn : ℕ → ℕ → Bool) : Type 0 where
    pub still : (y l : ℕ) → h.done y l ≡ true → dn y l ≡ true
    pub only : (y l : ℕ) → dn y l ≡ true → (h.done y l ≡ true) ⊎ ((y ≡ i) × (l ≡ suc q) × Everywhere G s j i q)

  -- swap suc q at i, of the given id, enters node j, which has the block b then. h' is what is known then: the swap may be new, or done by this
  pub record Enters (G : Ghost) (h h' : Ledger B) (s : Columns B) (id_of' : ℕ → ℕ → WriteId) (j i q : ℕ) (id : WriteId) (b : B) : Type 0 where
    pub spot : Spot O j i
    pub before : G.in_block j i ≡ q
    pub is : id_of' i (suc q) ≡ id
    pub position : id.position ≡ i
    pub high : suc q ≤ h'.len i
    pub block : b ≡ code O j (at O h' (upd (G.in_block j) i (suc q)))
    -- at a data node it is the newest swap
    pub newest : j ≤ k → (i ≡ j) × (h'.len j ≡ suc q)
    -- what was known
    pub val : (y l : ℕ) → l ≤ h.len y → h'.val y l ≡ h.val y l
    pub id_of : (y l : ℕ) → l ≤ h.len y → id_of' y l ≡ G.id_of y l
    pub len : (y : ℕ) → h.len y ≤ h'.len y
    pub own : (m : ℕ) → j ≢ m → m ≤ k → h'.len m ≡ h.len m
    pub failed : h.failed ≡ true → h'.failed ≡ true
    -- what is new
    pub done : DoneThen G h s j i q h'.done
    pub new : (m y l : ℕ) → 1 ≤ l → l ≤ h'.len y → (l ≤ h.len y) ⊎ (is_old_in (id_of' y l) (s.entries m) ≡ false)

  module _ (L : Laws O) {G : Ghost} {h h' : Ledger B} {s : Columns B} (I : Inv O G h s)
      {id_of' : ℕ → ℕ → WriteId} {j i q : ℕ} {id : WriteId} {b : B} (T : Takes G s j) (E : Enters G h h' s id_of' j i q id b) where
    abbrev G' : Ghost
    G' = entered G id_of' j i q

    abbrev es : List Entry
    es = s.entries j

    unwritten : Unwritten O G h j (s.epoch j) es
    unwritten = all-unwritten I T j (taker-live I T)

    live : Live O G h j (s.block j) (s.epoch j)
    live = (I.node j).live (taker-live I T)

    listed-before : G.in_list j i ≡ q
    listed-before = sym (unwritten.same i E.spot) ∙ E.before

    -- the counts at node j and position i, and at its other positions
    count : (f : ℕ → ℕ → ℕ) → upd2 f j i (suc q) j i ≡ suc q
    count f = upd2-same f j i (suc q)

    count-other : (f : ℕ → ℕ → ℕ) (y : ℕ) → i ≢ y → upd2 f j i (suc q) j y ≡ f j y
    count-other f y d = upd2-other f j i (suc q) j y d

    block-grows : (m y : ℕ) → G.in_block m y ≤ G'.in_block m y
    block-grows = upd2-ind (λ m y a. G.in_block m y ≤ a) G.in_block j i (suc q) (let a = E.before in omega arith) (λ m y d. omega arith)

    list-grows : (m y : ℕ) → G.in_list m y ≤ G'.in_list m y
    list-grows = upd2-ind (λ m y a. G.in_list m y ≤ a) G.in_list j i (suc q) (let a = listed-before in omega arith) (λ m y d. omega arith)

    -- what is done is in every node
    least : (m : ℕ) → is_init (s.op m) ≡ false → (y l : ℕ) → Spot O m y → h'.done y l ≡ true → (h.done y l ≡ true) ⊎ (l ≤ G'.in_block m y)
    least m a y l p d = go (E.done.only y l d)
      where
        go : (h.done y l ≡ true) ⊎ ((y ≡ i) × (l ≡ suc q) × Everywhere G s j i q) → (h.done y l ≡ true) ⊎ (l ≤ G'.in_block m y)
        go (inl e) = inl e
        go (inr (e, f, all)) = inr (rw (e, f) (all m a (rw e at p)))

    ---- the other nodes
    other : (m : ℕ) → j ≢ m → Grown O G G' h h' m (s.op m) (s.entries m)
    other m d =
        record {
          base = refl;
          in_block = same G.in_block;
          in_list = same G.in_list;
          cut = λ r y. refl;
          cuts = λ r. not-cut I T m r;
          is_settled = refl;
          begun = λ t. t;
          val = E.val;
          id_of = E.id_of;
          len = E.len;
          own = E.own m d;
          done = E.done.still;
          least = λ a y l p t. rw (← (same G.in_block y)) (least m a y l p t);
          new = E.new m;
          failed = E.failed;
        }
      where
        same : (f : ℕ → ℕ → ℕ) (y : ℕ) → upd2 f j i (suc q) m y ≡ f m y
        same f y = upd2-pos f j i (suc q) m y d

    ---- the node's list: an id listed is the new one or one of before
    abbrev Recent : ℕ → ℕ → Type 0
    Recent y l = (is_recent_in (id_of' y l) es || same_id id (id_of' y l)) ≡ true

    list : ListOk O G' h' j (enter id es)
    list =
        record {
          short = each-place (λ y. G'.in_list j y ≤ h'.len y) i (rw (count G.in_list) E.high) (λ y d. rw (count-other G.in_list y d) (v.short y));
          listed = λ x e. listed x (or-one (is_listed x es) (same_id id x) (sym (listed-enter x id es) ∙ e));
          mine = λ x e. mine x (or-one (is_listed x es) (same_id id x) (sym (listed-enter x id es) ∙ e));
          undone = λ y l p a c d. rw (recent-enter (id_of' y l) id es) (undone l y p a c d);
          old = λ y l a c e. v.old y l a c (sym (old-enter (id_of' y l) id es) ∙ e);
        }
      where
        -- as the ids and the counts of swaps are now
        was : Ghost
        was = record { id_of = id_of'; base = G.base; in_block = G.in_block; in_list = G.in_list; cut = G.cut; is_settled = G.is_settled; begun = G.begun }

        v : ListOk O was h' j es
        v = list-frame O G was h h' j es (λ y. refl) E.id_of E.len E.done.still (E.new j) (I.node j).list

        listed : (x : WriteId) → (is_listed x es ≡ true) ⊎ (same_id id x ≡ true) → Among O G' (G'.in_list j x.position) x
        listed x (inl e) = let a = v.listed x e in record { l = a.l; low = a.low; high = le_trans a.high (list-grows j x.position); is = a.is }
        listed x (inr e) =
            rw (← (same_id_lem id x e))
            (record {
              l = suc q;
              low = omega arith;
              high = rw (E.position, count G.in_list) (omega arith);
              is = ap (λ y. id_of' y (suc q)) E.position ∙ E.is;
            })

        mine : (x : WriteId) → (is_listed x es ≡ true) ⊎ (same_id id x ≡ true) → Spot O j x.position
        mine x (inl e) = v.mine x e
        mine x (inr e) = rw (← (same_id_lem id x e), E.position) E.spot

        undone : (l y : ℕ) → Spot O j y → 1 ≤ l → l ≤ G'.in_list j y → h'.done y l ≡ false → Recent y l
        undone l =
            each-place (λ y. Spot O j y → 1 ≤ l → l ≤ G'.in_list j y → h'.done y l ≡ false → Recent y l) i
            (λ p a c d. here p a (rw (count G.in_list) at c) d (same_or l (suc q)))
            (λ y d p a c f. or_left (is_recent_in (id_of' y l) es) (same_id id (id_of' y l)) (v.undone y l p a (rw (count-other G.in_list y d) at c) f))
          where
            here : Spot O j i → 1 ≤ l → l ≤ suc q → h'.done i l ≡ false → (l ≡ suc q) ⊎ (l ≢ suc q) → Recent i l
            here p a c d (inl e) = rw (e, E.is) (or_right (is_recent_in id es) (same_id id id) (same-id-refl id))
            here p a c d (inr e) = or_left (is_recent_in (id_of' i l) es) (same_id id (id_of' i l)) (v.undone i l p a (let f = listed-before in omega arith) d)

    itself : NodeOk O G' h' j b (s.op j) (s.epoch j) (enter id es)
    itself =
        record {
          live = λ t. record {
            low = live.low;
            high = live.high;
            block = E.block ∙ ap (code O j) (sym (λ z y. h'.val y (upd2-at G.in_block j i (suc q) y z)));
            between = each-place (λ y. Spot O j y → Between O h' (G'.in_block j y) y) i
                (λ p. record { most = rw (count G.in_block) E.high; least = λ l d. in-block i p l (least j t i l p d) })
                (λ y d p. record {
                  most = rw (count-other G.in_block y d) (le_trans (live.between y p).most (E.len y));
                  least = λ l f. in-block y p l (least j t y l p f);
                });
            epoch = live.epoch;
          };
          unwritten = λ t f. record {
            epoch = unwritten.epoch;
            same = each-place (λ y. Spot O j y → G'.in_block j y ≡ G'.in_list j y) i (λ p. count G.in_block ∙ sym (count G.in_list))
                (λ y d p. count-other G.in_block y d ∙ unwritten.same y p ∙ sym (count-other G.in_list y d));
            own = λ a. let (e, f) = E.newest a in ap (G'.in_block j) (sym e) ∙ count G.in_block ∙ sym f;
            newest = λ a. let (e, f) = E.newest a in inl (last-enter id es ∙ ap Some (sym ((λ z. id_of' (sym e z) (f z)) ∙ E.is)));
          };
          written = λ t. not-cut I T j (inl t);
          settled = λ t. not-cut I T j (inr t);
          list = list;
          init = λ t a c. clash t (taker-live I T);
          bare = bare;
        }
      where
        in-block : (y : ℕ) → Spot O j y → (l : ℕ) → (h.done y l ≡ true) ⊎ (l ≤ G'.in_block j y) → l ≤ G'.in_block j y
        in-block y p l (inl d) = le_trans ((live.between y p).least l d) (block-grows j y)
        in-block y p l (inr d) = d

        bare : {A : Type 0} → (is_init (s.op j) ≡ true) ⊎ (G.is_settled j ≡ true) → A
        bare (inl t) = clash t (taker-live I T)
        bare (inr t) = not-cut I T j (inr t)

    node : (m : ℕ) → NodeOk O G' h' m (upd s.block j b m) (s.op m) (s.epoch m) (upd s.entries j (enter id es) m)
    node =
        each-place (λ m. NodeOk O G' h' m (upd s.block j b m) (s.op m) (s.epoch m) (upd s.entries j (enter id es) m)) j
        (rw (upd_same s.block j b, upd_same s.entries j (enter id es)) itself)
        (λ m d. rw (upd_other s.block j b m d, upd_other s.entries j (enter id es) m d)
        (node-frame O L G G' h h' m (s.block m) (s.op m) (s.epoch m) (s.entries m) (other m d) (I.node m)))

    -- the hand of a client whose last swap is another
    pub entered-hand : (d : ℕ) (e : B) (w : Write) → h'.last d ≡ h.last d →
        ((p : ℕ) → suc p ≤ h.len w.id.position → w.id ≡ G.id_of w.id.position (suc p) → w.id.client ≡ d → w.id.position ≡ i → p ≢ q) →
        HandOk O G h s.op d e w → HandOk O G' h' s.op d e w
    entered-hand d e w last another H =
        hand-frame O G G' h h' s.op s.op d e w
        (record {
          base = refl;
          val = E.val;
          id_of = E.id_of;
          len = E.len;
          done = E.done.still;
          still = λ e o p a c t. is_false (h'.done i' (suc p)) (λ f. still p (another p a c o.client) t (E.done.only i' (suc p) f));
          last = last;
          in_done = λ m p a c f g r t. le_trans (t c f) (block-grows m i');
          not_done = λ m p a c f g r v t. not_done m p (another p g r v) (t c f);
        })
        H
      where
        i' : ℕ
        i' = w.id.position

        still : {A : Type 0} (p : ℕ) → (i' ≡ i → p ≢ q) → h.done i' (suc p) ≡ false →
            (h.done i' (suc p) ≡ true) ⊎ ((i' ≡ i) × (suc p ≡ suc q) × Everywhere G s j i q) → A
        still p another t (inl f) = clash f t
        still p another t (inr (f, g, all)) = absurd (another f (omega arith))

        not_done : (m p : ℕ) → (i' ≡ i → p ≢ q) → G.in_block m i' ≤ p → G'.in_block m i' ≤ p
        not_done m p another =
            upd2-ind (λ m y a. i' ≡ y → G.in_block m y ≤ p → a ≤ p) G.in_block j i (suc q)
            (λ r t. let c = E.before in let f = another r in omega arith) (λ m y d r t. t) m i' refl

    -- all but what a client has
    pub entered-inv : (next : ℕ → ℕ) (hand : ℕ → Option Write) (difference : ℕ → B) (finished : ℕ → List WriteId) → IdsOk O G' h' next →
        ((c : ℕ) (w : Write) → hand c ≡ Some w → HandOk O G' h' s.op c (difference c) w) → ((c : ℕ) → FinishedOk O G' h' c (next c) (finished c)) →
        Inv O G' h' (set_blocks (upd s.block j b) (set_entries (upd s.entries j (enter id es))
        (set_nexts next (set_hands hand (set_differences difference (set_finished finished s))))))
    entered-inv next hand difference finished ids hands finished-lists =
        record {
          ids = ids;
          node = node;
          pair = λ m l. record { together = (I.pair m l).together; only = (I.pair m l).only; member = λ t. not-cut I T m (inl ((I.pair m l).only t)) };
          hand = hands;
          finished = finished-lists;
          unl = I.unl;
          weak = I.weak;
          phase = λ c m r. phase-quiet O G G' refl c m (s.phase c) (s.op m) (s.lock m) (s.epoch m) (nobody c) (I.phase c m r);
          rebuild = λ c. rebuild-quiet O G' h' s.spare c (s.phase c) (nobody c);
          one = I.one;
          shown = λ c m r t. upd-ind (λ m y. IsNode O m → s.lock m ≡ L1 c → s.spare m ≡ y) s.block j b
              (λ r l. clash (rw l at T.lock) refl) (λ m d r l. I.shown c m r t l) m r;
        }
      where
        nobody : (c : ℕ) → writes (s.phase c) ≡ false
        nobody = no-writer O G h s I j (taker-live I T) T.lock
