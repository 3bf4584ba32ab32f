-- Check and drop keep the invariant: they change one hand. Assumes nothing.
use Rattle.std.specs.Prelude.{Option, None, Some}
use mathlib.Core.Path.{◌≡◌, refl, sym, subst, ◌∙◌}
use mathlib.Core.Logic.{◌≢◌, ◌⊎◌, inl, inr}
use mathlib.Core.Bool.{true, false}
use Prim.Native.Nat.{ℕ, zero, suc, ◌≤◌, ◌<◌}
use native.Mathlib.Decide.{dec_lt}
use native.Mathlib.Omega.{arith}
use Rattle.code.specs.Decode.{NodeSet, has, excluding}
use Rattle.entries.specs.Entries.{is_recent_in, previous_recent}
use Rattle.records.specs.Node.{is_norm}
use Rattle.records.specs.Client.{Write}
use Rattle.machine.specs.Writing.{with_done, forgetting}
use Rattle.basics.proofs.Updates.{upd, upd-ind}
use Rattle.basics.proofs.Tests.{each-place, clash, is_true, some_same, not_some}
use Rattle.machine.proofs.EntryLaws.{recent-listed}
use Rattle.machine.proofs.Columns.{Ops, Columns, set_hands}
use Rattle.machine.proofs.Ledger.{Ledger}
use Rattle.machine.proofs.Invariant.{Ghost, Laws, Spot, Own, HandOk, Inv, Good}
use Rattle.machine.proofs.Frame.{norm-live, of_live, counted}
use Rattle.machine.proofs.Sets.{excluding-same, excluding-other}

module _ (O : Ops) where
  open O use {B, k, n}

  abbrev pub with_hand : Columns B → ℕ → Option Write → Columns B
  with_hand s c t = set_hands (upd s.hand c t) s

  -- a call that changes one hand alone
  pub hand-only : {G : Ghost} {h : Ledger B} {s : Columns B} → Inv O G h s → (c : ℕ) (t : Option Write) →
      ((u : Write) → t ≡ Some u → HandOk O G h s.op c (s.difference c) u) → Inv O G h (with_hand s c t)
  hand-only {G} {h} {s} I c t f =
      record {
        ids = I.ids;
        node = I.node;
        pair = I.pair;
        hand = upd-ind (λ d a. (u : Write) → a ≡ Some u → HandOk O G h s.op d (s.difference d) u) s.hand c t f (λ d e. I.hand d);
        finished = I.finished;
        unl = I.unl;
        weak = I.weak;
        phase = I.phase;
        rebuild = I.rebuild;
        one = I.one;
        shown = I.shown;
      }

  pub drop-good : (h : Ledger B) (s : Columns B) (c : ℕ) → Good O h s → Good O h (with_hand s c None)
  drop-good h s c g = record { ghost = g.ghost; inv = hand-only g.inv c None (λ u e. not_some e) }

  -- another write u in the place of w
  other-write : (h : Ledger B) (s : Columns B) (c : ℕ) (w u : Write) → (g : Good O h s) → s.hand c ≡ Some w →
      (HandOk O g.ghost h s.op c (s.difference c) w → HandOk O g.ghost h s.op c (s.difference c) u) → Good O h (with_hand s c (Some u))
  other-write h s c w u g e f =
      record {
        ghost = g.ghost;
        inv = hand-only g.inv c (Some u) (λ v t. subst (HandOk O g.ghost h s.op c (s.difference c)) (some_same t) (f (g.inv.hand c w e)));
      }

  module _ {G : Ghost} {h : Ledger B} {s : Columns B} (I : Inv O G h s) {c : ℕ} (j : ℕ) {w : Write} (o : Own O G h s.op c (s.difference c) w) where
    abbrev i : ℕ
    i = w.id.position

    -- the own id is not recent at j: the write is not there, since it is not done
    own-gone : Laws O → is_recent_in w.id (s.entries j) ≡ false → Own O G h s.op c (s.difference c) (with_done w (excluding j w.done))
    own-gone L r =
        record {
          q = o.q;
          high = o.high;
          pos = o.pos;
          is = o.is;
          client = o.client;
          undone = o.undone;
          difference = o.difference;
          prev = o.prev;
          last = o.last;
          in_done = each-place (λ m. k < m → is_norm (s.op m) ≡ true → G.is_settled m ≡ false → has done' m ≡ true → suc o.q ≤ G.in_block m i) j
              (λ a b z f. clash f (excluding-same L (of_live O ((I.node j).live (norm-live (s.op j) b))) w.done))
              (λ m d a b z f. o.in_done m a b z (sym (others m d b) ∙ f));
          not_done = each-place (λ m. k < m → is_norm (s.op m) ≡ true → G.is_settled m ≡ false → has done' m ≡ false → G.in_block m i ≤ o.q) j
              (λ a b z f. absent a b z (dec_lt o.q (G.in_block j i)))
              (λ m d a b z f. o.not_done m a b z (sym (others m d b) ∙ f));
        }
      where
        done' : NodeSet
        done' = excluding j w.done

        others : (m : ℕ) → j ≢ m → is_norm (s.op m) ≡ true → has done' m ≡ has w.done m
        others m d b = excluding-other L (of_live O ((I.node m).live (norm-live (s.op m) b))) w.done j d

        absent : k < j → is_norm (s.op j) ≡ true → G.is_settled j ≡ false → Dec (o.q < G.in_block j i) → G.in_block j i ≤ o.q
        absent a b z (no t) = omega arith
        absent a b z (yes t) =
            let spot : Spot O j i = record { pos = o.pos; sees = inr a } in
            let listed : suc o.q ≤ G.in_list j i = rw (((I.node j).unwritten b z).same i spot) at t in
            clash (rw o.is ((I.node j).list.undone i (suc o.q) spot (omega arith) listed o.undone)) r

    -- the own id is recent at j and the one before it is not: that one is done
    before-done : is_recent_in w.id (s.entries j) ≡ true → previous_recent w.previous (s.entries j) ≡ false → h.done i o.q ≡ true
    before-done r f = go o.prev
      where
        here : Spot O j i × (suc o.q ≤ G.in_list j i)
        here = counted O I j i (suc o.q) (omega arith) o.high (rw o.is at (recent-listed w.id (s.entries j) r))

        done : (p : ℕ) → p ≡ o.q → is_recent_in (G.id_of i p) (s.entries j) ≡ false → h.done i p ≡ true
        done zero t g = I.ids.zero_done i
        done (suc p) t g =
            is_true (h.done i (suc p)) (λ d.
            let (spot, listed) = here in clash ((I.node j).list.undone i (suc p) spot (omega arith) (omega arith) d) g)

        go : (w.previous ≡ Some (G.id_of i o.q)) ⊎ (h.done i o.q ≡ true) → h.done i o.q ≡ true
        go (inl e) = done o.q refl (rw e at f)
        go (inr e) = e

  -- the check at j takes j out of done, or it takes the previous id away
  pub check-init-good : Laws O → (h : Ledger B) (s : Columns B) (c j : ℕ) (w : Write) → Good O h s → s.hand c ≡ Some w →
      is_recent_in w.id (s.entries j) ≡ false → Good O h (with_hand s c (Some (with_done w (excluding j w.done))))
  check-init-good L h s c j w g e r =
      other-write h s c w (with_done w (excluding j w.done)) g e (λ H. record { epoch = H.epoch; own = λ t. own-gone g.inv j (H.own t) L r })

  pub check-gc-good : (h : Ledger B) (s : Columns B) (c j : ℕ) (w : Write) → Good O h s → s.hand c ≡ Some w →
      is_recent_in w.id (s.entries j) ≡ true → previous_recent w.previous (s.entries j) ≡ false → Good O h (with_hand s c (Some (forgetting w)))
  check-gc-good h s c j w g e r f = other-write h s c w (forgetting w) g e (λ H. record { epoch = H.epoch; own = λ t. forgotten (H.own t) })
    where
      forgotten : Own O g.ghost h s.op c (s.difference c) w → Own O g.ghost h s.op c (s.difference c) (forgetting w)
      forgotten o =
          record {
            q = o.q;
            high = o.high;
            pos = o.pos;
            is = o.is;
            client = o.client;
            undone = o.undone;
            difference = o.difference;
            prev = inr (before-done g.inv j o r f);
            last = o.last;
            in_done = o.in_done;
            not_done = o.not_done;
          }
