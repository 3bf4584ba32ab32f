-- What a step of a rebuild leaves alone, and a failure too: nothing is swapped and nothing reported done, so the ids and the values are as they were,
-- and of the ghost only where the nodes stand is new. Assumes nothing.
use mathlib.Core.Path.{◌≡◌, refl, sym, subst}
use mathlib.Core.Logic.{◌⊎◌, inl}
use mathlib.Core.Bool.{true, false}
use mathlib.Core.List.{List}
use Prim.Native.Nat.{ℕ}
use native.Mathlib.Omega.{arith}
use Rattle.entries.specs.declared.WriteId.{WriteId}
use Rattle.entries.specs.Entries.{Entry, is_listed}
use Rattle.records.specs.declared.Opmode.{Opmode}
use Rattle.records.specs.Node.{is_norm, is_recons}
use Rattle.records.specs.Client.{Write}
use Rattle.machine.proofs.EntryLaws.{old-listed}
use Rattle.machine.proofs.Columns.{Ops}
use Rattle.machine.proofs.Ledger.{Ledger}
use Rattle.machine.proofs.Invariant.{Ghost, Laws, Between, IdsOk, ListOk, NodeOk, HandOk, FinishedOk}
use Rattle.machine.proofs.Frame.{node-frame, hand-frame}

-- where the nodes stand as in G', with the ids and the base of G
abbrev pub standing : Ghost → Ghost → Ghost
standing G G' =
    record { id_of = G.id_of; base = G.base; in_block = G'.in_block; in_list = G'.in_list; cut = G'.cut; is_settled = G'.is_settled; begun = G'.begun }

-- the counts of settles and the failures as in h', all else as in h
abbrev pub counting : {B : Type 0} → Ledger B → Ledger B → Ledger B
counting h h' = record { len = h.len; val = h.val; done = h.done; last = h.last; stale = h.stale; settles = h'.settles; failed = h'.failed }

module _ (O : Ops) where
  open O use {B}

  -- node j stands where it stood
  pub record Stays (G G' : Ghost) (j : ℕ) (o : Opmode) : Type 0 where
    pub in_block : (i : ℕ) → G'.in_block j i ≡ G.in_block j i
    pub in_list : (i : ℕ) → G'.in_list j i ≡ G.in_list j i
    pub is_settled : G'.is_settled j ≡ G.is_settled j
    pub cut : (is_recons o ≡ true) ⊎ (G.is_settled j ≡ true) → (i : ℕ) → G'.cut i ≡ G.cut i
    pub begun : G.begun ≡ true → G'.begun ≡ true

  pub between_step : {h : Ledger B} (h' : Ledger B) {a i : ℕ} → Between O h a i → Between O (counting h h') a i
  between_step h' b = record { most = b.most; least = b.least }

  -- a list with nothing in it
  pub empty-list : (G : Ghost) (h : Ledger B) (j : ℕ) (es : List Entry) → ((i : ℕ) → G.in_list j i ≡ 0) → ((x : WriteId) → is_listed x es ≡ true → ⊥) →
      ListOk O G h j es
  empty-list G h j es none empty =
      record {
        short = λ i. rw (none i) (omega arith);
        listed = λ x t. absurd (empty x t);
        mine = λ x t. absurd (empty x t);
        undone = λ i l sp a b. absurd (omega (arith, none i));
        old = λ i l a b t. absurd (empty (G.id_of i l) (old-listed (G.id_of i l) es t));
      }

  module _ {G : Ghost} (G' : Ghost) {h : Ledger B} (h' : Ledger B) where
    pub ids_step : {next : ℕ → ℕ} → IdsOk O G h next → IdsOk O (standing G G') (counting h h') next
    ids_step v =
        record {
          id_of-pos = v.id_of-pos;
          id_of-inj = v.id_of-inj;
          id_of-old = v.id_of-old;
          zero_done = v.zero_done;
          done_len = v.done_len;
          no_stale = v.no_stale;
        }

    pub finished-step : {c next : ℕ} {ids : List WriteId} → FinishedOk O G h c next ids → FinishedOk O (standing G G') (counting h h') c next ids
    finished-step v = record { done = v.done; client = v.client; number = v.number }

    pub node-step : Laws O → (h.failed ≡ true → h'.failed ≡ true) → {j : ℕ} {b : B} {o : Opmode} {e : ℕ} {es : List Entry} → Stays G G' j o →
        NodeOk O G h j b o e es → NodeOk O (standing G G') (counting h h') j b o e es
    node-step L failed {j} {b} {o} {e} {es} S =
        node-frame O L G (standing G G') h (counting h h') j b o e es
        (record {
          base = refl;
          in_block = S.in_block;
          in_list = S.in_list;
          cut = S.cut;
          cuts = λ r i p v. between_step h' (subst (λ a. Between O h a i) (sym (S.cut r i)) v);
          is_settled = S.is_settled;
          begun = S.begun;
          val = λ i l p. refl;
          id_of = λ i l p. refl;
          len = λ i. omega arith;
          own = λ p. refl;
          done = λ i l t. t;
          least = λ a i l p t. inl t;
          new = λ i l a p. inl p;
          failed = failed;
        })

    -- a hand is concerned with the nodes that are NORM and not settled: these were so, and have the same swaps in their blocks
    pub hand-step : {op : ℕ → Opmode} (op' : ℕ → Opmode) →
        ((j : ℕ) → is_norm (op' j) ≡ true → G'.is_settled j ≡ false →
        (is_norm (op j) ≡ true) × (G.is_settled j ≡ false) × ((i : ℕ) → G'.in_block j i ≡ G.in_block j i)) →
        {c : ℕ} {d : B} {w : Write} → HandOk O G h op c d w → HandOk O (standing G G') (counting h h') op' c d w
    hand-step {op} op' was {c} {d} {w} =
        hand-frame O G (standing G G') h (counting h h') op op' c d w
        (record {
          base = refl;
          val = λ i l p. refl;
          id_of = λ i l p. refl;
          len = λ i. omega arith;
          done = λ i l t. t;
          still = λ d v q a t f. f;
          last = refl;
          in_done = λ j q a t f b e r. let v = was j t f in rw (v.2 w.id.position) (r v.0 v.1);
          not_done = λ j q a t f b e m r. let v = was j t f in rw (v.2 w.id.position) (r v.0 v.1);
        })
