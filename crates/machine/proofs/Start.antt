-- A fresh stripe has the invariant, and from the invariant follows what the guarantee says of a block that a read shows (`live-part`, `spare-part`)
-- and of a stripe with every write done (`steady`). Assumes nothing.
use Rattle.std.specs.Prelude.{None}
use mathlib.Core.Path.{◌≡◌, refl, sym, ap, subst, ◌∙◌}
use mathlib.Core.Logic.{◌⊎◌, inl, inr}
use mathlib.Core.Bool.{true, false}
use mathlib.Core.List.{[]}
use Prim.Native.Nat.{ℕ, zero, suc, ◌≤◌}
use native.Mathlib.Omega.{arith}
use lib.Dec.{leb}
use borrow.Author.Tests.{leb-true, leb-false, eqb-true}
use Rattle.code.specs.Decode.{has, no_nodes}
use Rattle.records.specs.Node.{is_init, is_recons}
use Rattle.records.specs.Client.{Rebuild, NoRebuild, Locking, Picking, Writing, Settling, Unlocking, has_picked}
use Rattle.basics.proofs.Tests.{clash, is_false, bool_cases, not_some}
use Rattle.machine.proofs.EntryLaws.{in-nil, listed_nil}
use Rattle.machine.proofs.Columns.{Ops, Unl, L1, Columns}
use Rattle.machine.proofs.Ledger.{Ledger, IsPos, IsCodeword, IsPart, Steady, AllDone, no_ledger, zeroth}
use Rattle.machine.proofs.Invariant.{Ghost, Laws, unlocks, code, IsNode, at, Between, NodeOk, Good}
use Rattle.machine.proofs.Frame.{norm-live, code-data, code-red, code-ext}
use Rattle.machine.proofs.Phases.{held-l1, phase-is, rebuild-is}
use Rattle.machine.proofs.Sets.{no-nodes}

module _ (O : Ops) where
  open O use {B, k, n, zeroes, parity}

  -- "zero blocks and counts, NORM, UNL, empty lists"; what is no node counts as failed
  pub record Fresh (s : Columns B) : Type 0 where
    pub block : (j : ℕ) → s.block j ≡ zeroes
    pub live : (j : ℕ) → is_init (s.op j) ≡ false → IsNode O j
    pub init : (j : ℕ) → is_init (s.op j) ≡ true → IsNode O j → ⊥
    pub recons : (j : ℕ) → is_recons (s.op j) ≡ false
    pub lock : (j : ℕ) → s.lock j ≡ Unl
    pub epoch : (j : ℕ) → s.epoch j ≡ 0
    pub rset : (j : ℕ) → s.rset j ≡ no_nodes
    pub entries : (j : ℕ) → s.entries j ≡ []
    pub hand : (c : ℕ) → s.hand c ≡ None
    pub phase : (c : ℕ) → s.phase c ≡ NoRebuild
    pub finished : (c : ℕ) → s.finished c ≡ []

  -- nothing swapped, nothing settled
  abbrev no_ghost : Ghost
  no_ghost =
      record {
        id_of = λ i l. record { client = 0; position = 0; number = record { 0 = 0 } };
        base = 0;
        in_block = λ j i. 0;
        in_list = λ j i. 0;
        cut = λ i. 0;
        is_settled = λ j. false;
        begun = false;
      }

  no_place : {A : Type 0} (l : ℕ) → 1 ≤ l → l ≤ 0 → A
  no_place l a b = absurd (omega arith)

  zeroth-zero : (i l : ℕ) → zeroth i l ≡ true → l ≤ 0
  zeroth-zero i l e = let a = eqb-true l 0 e in omega arith

  zeroes-code : Laws O → (j : ℕ) → zeroes ≡ code O j (λ i. zeroes)
  zeroes-code L j = go (bool_cases (leb j k))
    where
      go : (leb j k ≡ true) ⊎ (leb j k ≡ false) → zeroes ≡ code O j (λ i. zeroes)
      go (inl e) = sym (code-data O j (λ i. zeroes) (leb-true j k e))
      go (inr e) = sym (code-red O j (λ i. zeroes) (leb-false j k e) ∙ L.parity_zero j)

  start-node : Laws O → (s : Columns B) → Fresh s → (j : ℕ) → NodeOk O no_ghost (no_ledger O) j (s.block j) (s.op j) (s.epoch j) (s.entries j)
  unfolding no_ledger
  start-node L s F j =
      rw (F.block j, F.epoch j, F.entries j)
      (record {
        live = λ t. record {
          low = (F.live j t).low;
          high = (F.live j t).high;
          block = zeroes-code L j;
          between = λ i p. record { most = omega arith; least = zeroth-zero i };
          epoch = omega arith;
        };
        unwritten = λ t f. record { epoch = refl; same = λ i p. refl; own = λ a. refl; newest = λ a. inr refl };
        written = λ t. clash t (F.recons j);
        settled = λ t. clash t refl;
        list = record {
          short = λ i. omega arith;
          listed = λ x t. listed_nil x t;
          mine = λ x t. listed_nil x t;
          undone = λ i l p a b. no_place l a b;
          old = λ i l a b. no_place l a b;
        };
        init = λ t a b. absurd (F.init j t (record { low = a; high = b }));
        bare = λ t i. refl;
      })

  pub start-good : Laws O → (s : Columns B) → Fresh s → Good O (no_ledger O) s
  unfolding no_ledger
  start-good L s F =
      record {
        ghost = no_ghost;
        inv = record {
          ids = record {
            id_of-pos = λ i l a b. no_place l a b;
            id_of-inj = λ i l m a b. no_place l a b;
            id_of-old = λ i l a b. no_place l a b;
            zero_done = λ i. refl;
            done_len = zeroth-zero;
            no_stale = refl;
          };
          node = start-node L s F;
          pair = λ j l. record { together = λ t. clash t refl; only = λ t. not-member j l t; member = λ t. not-member j l t };
          hand = λ c w e. not_some (sym (F.hand c) ∙ e);
          finished = λ c. rw (F.finished c) (record { done = λ x t. in-nil x t; client = λ x t. in-nil x t; number = λ x t. in-nil x t });
          unl = λ t. clash t refl;
          weak = λ j l r i. rw (F.lock l);
          phase = λ c j r. rw (F.phase c, F.lock j);
          rebuild = λ c. rw (F.phase c) tt;
          one = λ c d a b. clash (rw (F.phase c) at a) refl;
          shown = λ c j r t. clash (rw (F.phase c) at t) refl;
        };
      }
    where
      not-member : {A : Type 0} (j l : ℕ) → has (s.rset j) l ≡ true → A
      not-member j l t = clash (rw (F.rset j) at t) (no-nodes l)

  ---- the block of a live data node is what a first part of the swaps there gave, with all that is done in it
  pub live-part : (h : Ledger B) (s : Columns B) → Good O h s → (i : ℕ) → IsPos O i → is_init (s.op i) ≡ false → IsPart O h i (s.block i)
  live-part h s g i p live =
      let v = (g.inv.node i).live live in
      let own = v.between i (record { pos = p; sees = inl refl }) in
      (g.ghost.in_block i i, (own.most, v.block ∙ code-data O i (at O h (g.ghost.in_block i)) p.high, own.least))

  -- so is the spare's, while a client whose pick was accepted holds that node at L1
  pub spare-part : Laws O → (h : Ledger B) (s : Columns B) → Good O h s → (c i : ℕ) → IsPos O i → has_picked (s.phase c) ≡ true →
      s.lock i ≡ L1 c → IsPart O h i (s.spare i)
  spare-part L h s g c i p picks held = go (s.phase c) refl picks
    where
      b : IsNode O i
      b = record { low = p.low; high = omega (arith, p.high, L.k_n) }

      at_cut : Between O h (g.ghost.cut i) i → s.spare i ≡ code O i (at O h g.ghost.cut) → IsPart O h i (s.spare i)
      at_cut v q = (g.ghost.cut i, (v.most, q ∙ code-data O i (at O h g.ghost.cut) p.high, v.least))

      go : (q : Rebuild) → s.phase c ≡ q → has_picked q ≡ true → IsPart O h i (s.spare i)
      go NoRebuild is t = clash t refl
      go (Locking old) is t = clash t refl
      go (Picking x) is t = clash t refl
      go (Writing x w e) is t = let r = rebuild-is O g.inv c is in at_cut (r.between i p) (r.spare i b.low b.high)
      go (Settling x e) is t = let r = rebuild-is O g.inv c is in at_cut (r.between i p) (r.spare i b.low b.high)
      go (Unlocking x) is t =
          let norm = (phase-is O g.inv c is i b).norm (rw held (held-l1 c)) in
          subst (IsPart O h i) (sym (g.inv.shown c i b (ap unlocks is) held)) (live-part h s g i p (norm-live (s.op i) norm))

  ---- with every write done and no node failed each block is that of the last values
  pub steady : Laws O → (h : Ledger B) (s : Columns B) → Good O h s → Steady O h s.block
  steady L h s g = record { codeword = codeword; values = values }
    where
      live : h.failed ≡ false → (j : ℕ) → 1 ≤ j → j ≤ n → is_init (s.op j) ≡ false
      live f j low high = is_false (is_init (s.op j)) (λ t. clash ((g.inv.node j).init t low high) f)

      newest : AllDone O h → (i : ℕ) → IsPos O i → (l : ℕ) → l ≡ h.len i → h.done i l ≡ true
      newest a i p zero e = g.inv.ids.zero_done i
      newest a i p (suc l) e = a i p (suc l) (omega arith) (omega arith)

      block : h.failed ≡ false → AllDone O h → (j : ℕ) → 1 ≤ j → j ≤ n → s.block j ≡ code O j (at O h h.len)
      block f a j low high =
          let v = (g.inv.node j).live (live f j low high) in
          v.block
          ∙ code-ext O L j (at O h (g.ghost.in_block j)) (at O h h.len) low (λ i p. ap (h.val i) (same i (v.between i p) (newest a i p.pos (h.len i) refl)))
        where
          same : (i : ℕ) → Between O h (g.ghost.in_block j i) i → h.done i (h.len i) ≡ true → g.ghost.in_block j i ≡ h.len i
          same i b d = let x = b.most in let y = b.least (h.len i) d in omega arith

      values : h.failed ≡ false → AllDone O h → (i : ℕ) → IsPos O i → s.block i ≡ h.val i (h.len i)
      values f a i p = block f a i p.low (let x = p.high in let y = L.k_n in omega arith) ∙ code-data O i (at O h h.len) p.high

      codeword : h.failed ≡ false → AllDone O h → IsCodeword O s.block
      codeword f a j low high =
          block f a j (omega arith) high ∙ code-red O j (at O h h.len) low ∙ L.parity_ext j (at O h h.len) s.block (λ i p. sym (values f a i p))
